pub mod Told
pub mod Leaves
pub mod Afterwards
