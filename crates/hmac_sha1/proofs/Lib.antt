mod WordLaws
mod ScheduleLaws
mod RoundLaws
mod MessageLaws
pub mod DigestLaws
pub mod HmacLaws
mod Examples
