pub mod Places
pub mod Votes
pub mod Sums
pub mod Contexts
pub mod Table
pub mod Examples
