pub mod Numbers
pub mod Products
pub mod Digits
