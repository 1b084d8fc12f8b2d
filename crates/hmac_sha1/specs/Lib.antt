pub mod Sha1
pub mod Parts
pub mod Hmac
