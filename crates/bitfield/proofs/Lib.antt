pub mod Words
pub mod Sets
pub mod Walks
pub mod Pairs
pub mod Steps
pub mod Blanks
pub mod Widths
pub mod Examples
