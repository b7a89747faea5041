pub mod Sides
pub mod Deployments
pub mod Reported
pub use Rattle.deploy_core.specs.Past
pub use Rattle.deployment_runs.specs.Runs
pub use Rattle.deployment_runs.specs.declared.fault.RunFault
