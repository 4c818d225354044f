pub mod Add
pub mod Ask
