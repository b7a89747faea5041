pub mod Encodings
pub mod Base32
pub mod Identities
