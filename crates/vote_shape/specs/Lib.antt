pub mod Voted
