pub mod Numbers
pub mod Order
pub mod Needs
pub mod Lists
