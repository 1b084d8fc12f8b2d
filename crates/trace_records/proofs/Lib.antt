pub mod AnswerLaws
mod AnswerReturns
mod CallReturns
