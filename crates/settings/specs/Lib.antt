pub mod Fields
pub mod Values
pub mod Rule
pub mod Checks
pub mod Record
