pub mod Evening
