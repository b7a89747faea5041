pub mod Faults
pub mod Plans
pub mod Requests
pub mod Conversations
pub mod Answers
