mod Building
mod Complete
mod CompleteFile
mod Keeping
mod PairLemmas
mod ReadSoFar
mod Reading
mod Running
mod Sound
mod SoundClosing
pub mod Spelling
pub mod StackLemmas
