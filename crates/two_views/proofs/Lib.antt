pub mod Turns
pub mod Rounds
pub mod Agreements
pub mod Named
pub mod Called
pub mod Examples
