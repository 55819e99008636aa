pub mod Steps
pub mod Values
pub mod Promise
