pub mod SessionLaws
mod CipherReturns
mod PacketReturns
