pub mod Pairs
pub mod Shares
pub mod Entering
pub mod Gathering
pub mod Inserts
