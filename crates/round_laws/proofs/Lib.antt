pub mod Shaped
pub mod Keeps
pub mod Refusals
pub mod Lasting
