pub mod Rtp
pub mod Rtcp
pub mod Protected
pub mod Steps
