pub mod Training
pub mod Inner
