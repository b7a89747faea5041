-- What the functions of the crate require and ensure.
use Rattle.std.specs.Prelude.{◌≡◌, ℕ, List, Option, Result, IfOk}
use Rattle.std.specs.declared.alloc.AllocError.{AllocError}
use Rattle.arm_value.specs.View.{json}
use Rattle.arm_value.specs.declared.read.JsonFault.{JsonFault}
use Rattle.arm_value.specs.declared.read.JsonFault.TheVariants.{OutOfMemory}
use Rattle.arm_value.specs.declared.value.Value.{Value}
pub use Rattle.read_backs.specs.Texts.{IsJsonText, IsReadBack}
pub use Rattle.request_deployments.specs.Deployed.{MayDeployBytes, HasDeployedBytes, TellsTree}
pub use Rattle.request_deployments.specs.Given.{MayDeployPlaced, HasDeployedPlaced, HasDeployedGiven}

-- the files of a tree are unchanged
abbrev pub Stay : (List ℕ → Option (List ℕ)) → (List ℕ → Option (List ℕ)) → Type 0
Stay old new = new ≡ old

abbrev pub IsMemoryFault : JsonFault → Type 0
IsMemoryFault f = f ≡ OutOfMemory

-- no value is returned
abbrev pub IsOut : Result Value AllocError → Type 0
IsOut r = IfOk r (λ v. ⊥)

-- the value is read back of the bytes
abbrev pub ReadsBack : List ℕ → Result Value AllocError → Type 0
ReadsBack bytes r = IfOk r (λ v. IsReadBack bytes (json v))
