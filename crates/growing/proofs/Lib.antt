pub mod Adds
mod Others
