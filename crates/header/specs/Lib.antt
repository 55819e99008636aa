pub mod Header
pub mod Heading
