pub mod Computed
pub mod Facts
pub mod Wrong
pub mod Machines
