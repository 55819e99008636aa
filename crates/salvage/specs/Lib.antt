pub mod Salvage
pub mod Repaired
pub mod Inner
