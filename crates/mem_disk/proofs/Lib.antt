pub mod LogLemmas
pub mod MoveLemmas
pub mod StepLemmas
pub mod Tears
pub mod CrashLemmas
