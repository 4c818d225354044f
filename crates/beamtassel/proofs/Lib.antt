pub mod Called
pub mod Rounds
