pub mod Circles
pub mod Sources
pub mod Unread
pub mod Program
pub mod Refused
pub mod Loading
pub mod Graphs
