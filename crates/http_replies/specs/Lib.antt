pub mod Codes
pub mod Replies
pub mod ReplyBytes
pub mod Sent
