pub mod Objects
pub mod Parameters
pub mod Outputs
pub mod Loops
pub mod Variables
pub mod Arguments
