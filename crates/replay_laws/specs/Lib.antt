pub mod Pieces
pub mod Ends
pub mod Weighs
pub mod Turned
pub mod Passed
pub mod Rounds
pub mod Marked
