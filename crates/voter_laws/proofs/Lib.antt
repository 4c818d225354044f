pub mod Goods
pub mod Lookups
pub mod Made
pub mod Orders
pub mod Examples
