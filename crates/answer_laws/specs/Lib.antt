pub mod Faithful
pub mod Seats
pub mod Tells
