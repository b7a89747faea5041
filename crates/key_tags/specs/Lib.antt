pub mod KeyCodes
pub mod SameKeys
