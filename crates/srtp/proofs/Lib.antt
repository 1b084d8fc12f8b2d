pub mod RowLaws
mod ListedLaws
mod SenderLaws
mod SenderReturns
mod ReceiverLaws
mod ControlRows
mod MediaRows
mod ReceiverReturns
