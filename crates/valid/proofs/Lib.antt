pub mod Laws
pub mod Valid
pub mod Lines
pub mod Moved
