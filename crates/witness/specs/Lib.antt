pub mod Flows
pub mod Takers
