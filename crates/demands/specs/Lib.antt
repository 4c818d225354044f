pub mod First
pub mod Second
pub mod Third
pub mod Makers
pub mod Wrong
