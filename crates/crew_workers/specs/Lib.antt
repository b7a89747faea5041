pub mod Seated
pub mod Received
pub mod Posts
pub mod Threads
