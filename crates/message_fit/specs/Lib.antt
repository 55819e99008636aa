pub mod Fit
pub mod Walk
pub mod Holding
