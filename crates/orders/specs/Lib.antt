pub mod Shape
pub mod Orders
pub mod Said
