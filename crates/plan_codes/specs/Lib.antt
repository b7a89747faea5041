pub mod Codes
pub mod NameCodes
pub mod TaskCodes
