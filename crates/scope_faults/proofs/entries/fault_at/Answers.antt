use Rattle.std.proofs.Common.{◌∙◌, ap}
use Rattle.scope_faults.specs.Faults.{said_of}
use Rattle.scope_faults.proofs.entries.fault_at.Goals as goal

pub returns-in-Ok : goal.returns-in-Ok
returns-in-Ok c = (
  c.in-Ok.broken,
  (c.in-Ok.ensures, c.said_of.ensures ∙ ap (λ p. said_of p c.in-Ok.broken) c.in_ok-path.ensures),
)
