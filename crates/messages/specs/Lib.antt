pub mod Writes
pub mod Rewrites
pub mod Reading
