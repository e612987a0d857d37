pub mod Lines
pub mod Evaluations
pub mod Places
pub mod Picked
