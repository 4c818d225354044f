pub mod Adds
pub mod Asks
pub mod Cases
