pub mod Convert
pub mod Same
