pub mod Results
pub mod Makers
