pub mod OneList
pub mod Same
