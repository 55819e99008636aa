pub mod Replacing
pub mod Inner
