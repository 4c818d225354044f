pub mod Search
pub mod Graph
pub mod Ghost
pub mod Shape
