pub mod Values
pub mod Reading
pub mod RoundTrips
