pub mod Missing
pub mod Words
