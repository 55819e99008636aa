pub mod Structure
pub mod Walk
