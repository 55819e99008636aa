pub mod Valid
pub mod Inner
