pub mod CounterMode
pub mod Steps
pub mod KeyDerivation
pub mod Ciphers
pub mod Tag
pub mod Rcc
pub mod Rfc3711
