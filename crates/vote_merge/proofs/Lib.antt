pub mod Turns
pub mod Meetings
pub mod Lowers
