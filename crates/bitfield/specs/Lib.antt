pub mod Bits
pub mod Walk
