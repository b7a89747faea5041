pub mod Loops
pub use Rattle.plan_codes.specs.Codes
pub use Rattle.plan_codes.specs.NameCodes
pub use Rattle.plan_codes.specs.TaskCodes
