pub mod Framing
pub mod Listening
pub mod Reads
pub mod Runs
