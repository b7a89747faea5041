pub mod ReadingLemmas
pub mod Effects
pub mod Deletes
pub mod Ended
pub mod Puts
pub mod Holding
pub mod Alone
