pub mod Run
pub mod Follow
pub mod Parsed
pub mod Tried
