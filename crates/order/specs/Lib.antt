pub mod Ordinativo
