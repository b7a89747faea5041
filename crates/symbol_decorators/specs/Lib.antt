pub mod Decorators
pub mod Batches
pub mod Limits
pub mod View
