pub mod Laws
pub mod Search
pub mod Filter
pub mod Index
pub mod Held
