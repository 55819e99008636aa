pub mod Records
pub mod Answers
pub mod Told
pub mod Leaves
pub mod Blanked
pub mod Afterwards
