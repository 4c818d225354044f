pub mod Shapes
pub mod Standings
pub mod Clears
pub mod Keeps
