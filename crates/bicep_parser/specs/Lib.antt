pub mod Answers
pub mod Depth
pub mod Refused
