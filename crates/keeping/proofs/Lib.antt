pub mod Laws
pub mod Repaired
