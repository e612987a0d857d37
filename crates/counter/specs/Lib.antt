pub mod Counting
pub mod Rows
pub mod Picked
