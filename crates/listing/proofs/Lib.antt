pub mod Voters
pub mod Rows
pub mod Examples
