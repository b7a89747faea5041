pub mod Deletions
