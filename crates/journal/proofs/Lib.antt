pub mod Laws
pub mod Lines
pub mod Marks
pub mod Walk
pub mod Told
