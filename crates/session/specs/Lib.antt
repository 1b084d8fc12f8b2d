pub mod Packets
pub mod SetUps
pub mod Steps
