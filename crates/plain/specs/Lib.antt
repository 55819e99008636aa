pub mod Plain
pub mod Flows
pub mod Notices
pub mod Says
