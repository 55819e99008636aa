pub mod Again
pub mod Promise
