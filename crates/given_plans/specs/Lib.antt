pub mod Given
pub mod Listing
pub mod Open
