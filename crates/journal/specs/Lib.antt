pub mod Journal
pub mod Inner
pub mod Told
