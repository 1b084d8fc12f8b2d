pub mod Answers
pub mod Layouts
pub mod Ops
pub mod Records
