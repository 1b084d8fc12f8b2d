pub mod BigEndian
pub mod Xor
pub mod Buffer
pub mod Equal
