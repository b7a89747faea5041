use Rattle.std.proofs.Common.{◌≡◌, drop}
use Rattle.template_parameters.specs.Binding.{given_for}
use Rattle.template_parameters.proofs.binding.given_for.Given as goal

abbrev pub invariant-loop-one : goal.invariant-loop-one
invariant-loop-one l = given_for l.name l.given ≡ given_for l.name (drop l.one-index l.given)
