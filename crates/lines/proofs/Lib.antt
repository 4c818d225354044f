pub mod Puts
pub mod Rounds
pub mod Decimals
pub mod Examples
