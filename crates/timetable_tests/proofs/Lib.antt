pub mod Booked
pub mod Shortening
