pub mod Service
pub mod Inner
