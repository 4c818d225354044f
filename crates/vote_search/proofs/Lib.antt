pub mod Turns
pub mod Ancestors
pub mod Together
pub mod Descents
pub mod Questions
