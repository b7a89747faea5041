pub mod Listed
pub mod Once
pub mod Start
pub mod Puts
pub mod Lists
