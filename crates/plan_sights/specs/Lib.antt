pub mod Resolved
pub mod Seats
