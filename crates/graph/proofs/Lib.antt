pub mod Climbs
pub mod Found
pub mod Tallies
pub mod Inserts
pub mod Listed
pub mod Followed
pub mod Ghosts
pub mod Meaning
