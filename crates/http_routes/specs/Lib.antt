pub mod Patterns
pub mod Segments
pub mod Seen
pub mod Routes
pub mod Targets
