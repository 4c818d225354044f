pub mod Prints
pub mod Same
