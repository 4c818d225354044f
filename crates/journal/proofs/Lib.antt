pub mod Turning
pub mod Through
pub mod Laid
pub mod Done
mod Unset
