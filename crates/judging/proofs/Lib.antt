pub mod Voters
pub mod Judged
