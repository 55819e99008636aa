pub mod Laws
pub mod Match
pub mod Entry
pub mod Book
pub mod NoSecond
