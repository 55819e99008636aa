pub mod OrderLaws
pub mod Runs
pub mod Isolated
pub mod Carry
pub mod History
pub mod Caveat
