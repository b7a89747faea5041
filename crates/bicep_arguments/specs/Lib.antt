pub mod Parameters
pub mod Arguments
pub mod View
