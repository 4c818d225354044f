pub mod Fits
pub mod Later
