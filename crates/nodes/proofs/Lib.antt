pub mod Lists
pub mod Tied
