pub mod Metadata
pub mod Program
pub mod Faults
pub mod Checked
pub mod Steps
