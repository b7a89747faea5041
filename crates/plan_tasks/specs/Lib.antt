pub mod Answered
pub mod InOrder
pub mod Start
