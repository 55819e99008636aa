pub mod Parts
pub mod Pieces
pub mod Sound
pub mod Complete
pub mod Alone
pub mod XML
pub mod Theorem
