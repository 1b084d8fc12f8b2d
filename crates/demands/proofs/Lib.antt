mod RowLaws
mod SettingLaws
pub mod Rfc3711Laws
mod MediaLaws
mod ControlLaws
mod PacketKinds
mod FinishedLaws
mod WindowTurns
mod Sending
mod Receiving
mod ReceiverRuns
mod Opening
mod SetUpLaws
pub mod SentIndices
pub mod Demand1
pub mod Demand2
pub mod Demand3
pub mod DefaultIntegrity
