pub mod Orders
pub mod Results
pub mod Rings
