pub mod Little
pub mod Fronts
pub mod Bytes
pub mod Examples
