pub mod Fit
pub mod Listed
pub mod Fits
pub mod Image
pub mod Agree
pub mod Lessons
