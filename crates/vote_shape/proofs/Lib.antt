pub mod Tidies
pub mod Marks
