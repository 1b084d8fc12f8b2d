pub mod Table
pub mod Rounds
pub mod Series
