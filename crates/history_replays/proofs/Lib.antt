pub mod Later
pub mod Recording
pub mod Following
