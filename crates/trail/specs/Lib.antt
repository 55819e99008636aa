pub mod Codes
pub mod Trail
