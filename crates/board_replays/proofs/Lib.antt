pub mod Bodies
pub mod ReplayLemmas
pub mod Joining
pub mod PlayLemmas
pub mod LateLemmas
pub mod FrontLemmas
pub mod CrashLemmas
