pub mod AnswerLaws
pub mod FieldLaws
pub mod RtpLaws
pub mod RtcpLaws
pub mod TrailerLaws
pub mod IndexWordLaws
pub mod SrtpLaws
pub mod SrtcpLaws
