pub mod IndexLaws
pub mod AcceptedLaws
pub mod WindowLaws
mod BitLaws
mod RowLaws
mod RowReturns
mod WindowReturns
