mod PartLaws
mod BlockBytes
pub mod KeystreamLaws
mod CounterLaws
mod XoredLaws
mod SegmentLaws
pub mod StreamLaws
pub mod CipherLaws
mod EncipherLaws
pub mod TagLaws
pub mod RccLaws
pub mod DerivationLaws
pub mod Examples
