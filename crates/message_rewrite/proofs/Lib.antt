pub mod Places
pub mod Laws
pub mod Bridge
pub mod Whole
pub mod Call
