pub mod Laws
pub mod Removed
