pub mod Voters
pub mod Steps
