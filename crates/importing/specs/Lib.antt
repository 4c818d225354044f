pub mod Import
pub mod Lent
