pub mod Rules
pub mod Known
pub mod Dependencies
pub mod Faults
