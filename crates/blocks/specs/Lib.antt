pub mod Table
pub mod Add
