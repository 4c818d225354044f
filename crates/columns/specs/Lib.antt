pub mod Find
pub mod Lists
pub mod Blank
