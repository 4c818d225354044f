pub mod Loop
pub mod All
pub mod Sum
pub mod Listing
