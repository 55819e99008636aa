pub mod Inner
pub mod Slots
