pub mod Past
pub use Rattle.deploy_histories.specs.Answers
pub use Rattle.deploy_histories.specs.Events
pub use Rattle.deploy_histories.specs.Legal
pub use Rattle.deploy_histories.specs.Planned
pub use Rattle.deploy_histories.specs.Points
pub use Rattle.deploy_histories.specs.Readiness
pub use Rattle.deploy_histories.specs.Values
