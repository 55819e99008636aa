pub mod Grammar
pub mod XML
