pub mod Bytes
pub mod Readings
pub mod Parts
pub mod Examples
