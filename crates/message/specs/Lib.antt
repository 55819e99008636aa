pub mod Message
pub mod Written
pub mod Read
pub mod From
pub mod Statements
