pub mod Index
pub mod Accepted
pub mod Row
pub mod Window
