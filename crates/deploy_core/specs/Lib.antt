pub mod Opens
pub mod Steps
pub mod Endings
pub mod Names
pub use Rattle.board_history.specs.Past
pub use Rattle.board_dealing.specs.Boards
