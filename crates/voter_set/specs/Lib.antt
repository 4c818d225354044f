pub mod Voters
pub mod Lookup
pub mod Good
