pub mod Bits
pub mod Indices
pub mod Uses
