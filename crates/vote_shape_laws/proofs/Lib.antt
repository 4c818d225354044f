pub mod Casts
pub mod Tidies
pub mod Nodes
pub mod Histories
pub mod Means
pub mod Keeps
pub mod Recordings
pub mod Opens
