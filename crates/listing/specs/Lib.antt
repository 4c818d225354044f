pub mod Entries
pub mod Written
