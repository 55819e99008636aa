pub mod Kept
pub mod Operation
pub mod Read
pub mod Replaces
