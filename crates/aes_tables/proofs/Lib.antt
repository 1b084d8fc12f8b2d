mod TableRule
pub mod RoundLaws
mod SeriesLaws
pub mod Agreement
