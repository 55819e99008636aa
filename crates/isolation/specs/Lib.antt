pub mod Order
pub mod Machine
pub mod Tally
