pub mod Laws
pub mod Judging
pub mod Kept
pub mod Listed
pub mod Codes
pub mod Searches
pub mod Later
