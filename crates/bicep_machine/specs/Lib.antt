pub mod Held
pub mod Kept
pub mod Stack
pub mod Closing
pub mod Machine
pub mod Views
pub mod Folding
pub mod Spelled
