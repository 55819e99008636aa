pub mod Marks
pub mod Twice
pub mod Bytes
pub mod Walk
pub mod Kept
pub mod Cases
