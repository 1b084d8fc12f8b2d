pub mod Runs
pub mod Rfc3711
pub mod Words
pub mod Demands
