-- The loop around a resource or a module.
use Rattle.std.proofs.Common.{ℕ, Option, Some, None}
use Rattle.bicep_resolved.specs.Source.{LoopTree}
use Rattle.emission_laws.specs.Holes.{IsRun}
use Rattle.emitted_declarations.specs.Declared.{Emission}
use Rattle.emitted_values.specs.Files.{frames_around}

-- there is one loop, or none
pub is_run : (e : Emission) (n : ℕ) (l : Option LoopTree) → IsRun (frames_around e n l)
is_run e n None = tt
is_run e n (Some l) = tt
