pub mod Records
pub mod Answers
pub mod Reading
pub mod Opening
pub mod Formatting
