pub mod Requests
pub mod Refusals
pub mod Came
pub mod Deploying
pub use Rattle.plan_boards.specs.Tells
