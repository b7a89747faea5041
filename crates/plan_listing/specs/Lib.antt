pub mod Hits
pub mod Words
