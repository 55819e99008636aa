pub mod Inner
pub mod Tags
