pub mod Sources
pub mod Templates
pub mod Requests
