pub mod Weight
pub mod Tree
pub mod Vote
pub mod Possible
pub mod Answers
pub mod Views
pub mod Time
