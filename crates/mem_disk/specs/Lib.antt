pub mod Moves
pub mod ReadImages
pub mod Log
pub mod Contents
pub mod Begun
pub mod MemDisks
