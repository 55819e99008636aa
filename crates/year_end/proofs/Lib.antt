pub mod Laws
pub mod Closed
pub mod Own
