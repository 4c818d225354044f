pub mod Sizes
pub mod Numbers
pub mod Results
pub mod Makers
pub mod Places
pub mod Examples
