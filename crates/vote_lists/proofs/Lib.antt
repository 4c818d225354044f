pub mod Lists
pub mod Relists
