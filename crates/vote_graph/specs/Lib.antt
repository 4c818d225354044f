pub mod Shape
pub mod Target
pub mod Calls
