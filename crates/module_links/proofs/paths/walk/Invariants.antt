use Rattle.std.proofs.Common.{◌≡◌, drop}
use Rattle.module_links.specs.Paths.{walked}
use Rattle.module_links.proofs.paths.walk.Given as goal

abbrev pub invariant-loop-step : goal.invariant-loop-step
invariant-loop-step l = walked l.folder.items (drop l.step-index l.steps) ≡ walked l.initial.folder.items l.steps
