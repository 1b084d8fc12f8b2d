pub mod PlainLaws
mod Returns
mod Stores
