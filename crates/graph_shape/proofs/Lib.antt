pub mod Counts
pub mod Marks
pub mod Heads
pub mod Tips
pub mod Graphs
