pub mod Kept
pub mod Reached
pub mod Answered
pub mod Tested
