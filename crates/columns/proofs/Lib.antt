pub mod Finds
pub mod Padded
pub mod Blanks
pub mod Examples
