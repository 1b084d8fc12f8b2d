pub mod Refusals
pub mod RefusalTexts
pub mod Outcomes
pub mod Contexts
pub mod Calls
pub mod ReceiverSteps
pub mod SenderSteps
