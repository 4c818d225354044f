pub mod Recorded
pub mod Votes
