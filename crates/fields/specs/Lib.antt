pub mod Causes
pub mod Fields
pub mod Told
pub mod Sentences
