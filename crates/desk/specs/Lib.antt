pub mod Desk
pub mod Steps
