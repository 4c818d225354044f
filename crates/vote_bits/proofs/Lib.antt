pub mod Sames
pub mod Joins
