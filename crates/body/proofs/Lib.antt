pub mod Laws
pub mod Same
pub mod Slots
pub mod Puts
pub mod State
pub mod Replaced
pub mod Later
