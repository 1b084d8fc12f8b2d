pub mod OneStream
pub mod StreamDemands
mod RunLaws
pub mod DeskOpens
mod SentLaws
pub mod SentThrough
pub mod DeskEvening
pub mod DeskRuns
mod EveningWitness
