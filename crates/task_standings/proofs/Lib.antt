pub mod Agreement
pub mod Lasting
pub mod Final
pub use Rattle.history_replays.proofs.Recording
