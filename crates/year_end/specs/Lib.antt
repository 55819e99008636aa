pub mod YearEnd
pub mod Inner
