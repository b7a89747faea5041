pub mod Called
pub mod Rounds
pub mod Dones
