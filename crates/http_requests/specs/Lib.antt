pub mod Verbs
pub mod Asks
pub mod Calls
pub mod Bodies
