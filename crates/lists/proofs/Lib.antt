pub mod Rests
pub mod Strikes
pub mod Marks
