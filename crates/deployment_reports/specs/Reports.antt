-- The status of an ending.
use Rattle.std.specs.Prelude.{ℕ}
use Rattle.deploy_core.specs.declared.ending.Ending.{Ending}
use Rattle.deploy_core.specs.declared.ending.Ending.TheVariants.{Succeeded, Refused, Faulty, Circular}

-- the status of an ending: 0 for success, 3 for failure
abbrev pub status_of : Ending → ℕ
status_of (Succeeded os) = 0
status_of (Refused u code) = 3
status_of (Faulty u fault) = 3
status_of (Circular us) = 3
