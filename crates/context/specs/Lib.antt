pub mod Votes
pub mod Context
