pub mod Replays
pub mod Plays
