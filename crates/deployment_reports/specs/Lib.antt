pub mod Lines
pub mod Sayings
pub mod Reports
