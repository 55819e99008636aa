pub mod Laws
pub mod Bodies
pub mod Kept
