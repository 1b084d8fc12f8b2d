pub mod FirstLaws
pub mod EventLaws
pub mod WholeEvening
pub mod OnePacket
pub mod InOrder
pub mod Witness
