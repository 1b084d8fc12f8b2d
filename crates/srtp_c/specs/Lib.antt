pub mod Plain
pub mod Boundary
