pub mod Table
pub mod ByteTests
pub mod SBoxRule
pub mod StateLaws
pub mod AesLaws
pub mod Examples
