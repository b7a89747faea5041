pub mod Actions
pub mod OpenJobs
pub mod Courses
pub mod Moments
pub mod Runs
pub mod Ends
pub mod Turns
