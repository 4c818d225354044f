pub mod Views
pub mod One
