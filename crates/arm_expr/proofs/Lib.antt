mod Words
mod CountLemmas
mod Parsing
mod Keeping
mod Lexing
pub mod LexingSound
mod Spelling
pub mod Reading
pub mod BracketLemmas
pub mod ViewLemmas
pub mod LexerLemmas
pub mod PrintLemmas
pub mod NameLemmas
