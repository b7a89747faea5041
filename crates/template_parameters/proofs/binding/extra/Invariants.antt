use Rattle.std.proofs.Common.{◌≡◌, drop}
use Rattle.template_parameters.specs.Binding.{extra}
use Rattle.template_parameters.proofs.binding.extra.Given as goal

abbrev pub invariant-loop-one : goal.invariant-loop-one
invariant-loop-one l = extra l.parameters l.given ≡ extra l.parameters (drop l.one-index l.given)
