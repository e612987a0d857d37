pub mod Winding
pub mod Bill
pub mod Capture
