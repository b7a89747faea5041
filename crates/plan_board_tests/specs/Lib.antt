pub mod Open
