pub mod All
pub mod Laws
pub mod Same
