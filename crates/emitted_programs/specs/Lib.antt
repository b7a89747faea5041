pub mod Sound
pub mod Given
pub mod Alike
pub use Rattle.emitted_sites.specs.Marks
pub use Rattle.emitted_sites.specs.Sites
