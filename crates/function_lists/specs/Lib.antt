pub mod Values
pub mod Sizes
pub mod Ends
pub mod Items
pub mod Members
pub mod Index
pub mod Merge
