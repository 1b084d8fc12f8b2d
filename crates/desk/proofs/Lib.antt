mod FrameLaws
mod ReaderLaws
mod ListenerLaws
mod RoomLaws
mod DeskLaws
pub mod Splits
pub mod RunLaws
pub mod Framings
pub mod Inputs
pub mod Examples
