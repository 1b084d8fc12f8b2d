pub mod BigEndianLaws
pub mod XorLaws
pub mod BufferLaws
pub mod EqualLaws
pub mod WordLaws
