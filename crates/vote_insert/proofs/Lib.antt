pub mod Sets
pub mod Marks
pub mod Adds
pub mod Keeps
pub mod Opens
