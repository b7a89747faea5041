pub mod Faults
pub mod Calls
pub mod Flow
pub mod Files
pub mod Inside
pub mod Disk
pub mod Ends
pub mod Finished
