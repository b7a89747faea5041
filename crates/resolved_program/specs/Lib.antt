pub mod Programs
pub mod Faults
pub mod Unknown
pub mod View
