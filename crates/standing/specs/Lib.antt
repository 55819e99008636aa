pub mod Readings
pub mod Standing
pub mod Walk
pub mod Shown
