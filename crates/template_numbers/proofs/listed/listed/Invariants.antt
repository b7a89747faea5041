use Rattle.std.proofs.Common.{length, map}
use Rattle.bicep_declared.specs.View.{declared_tree}
use Rattle.template_numbers.specs.Listed.{is_listed}
use Rattle.template_numbers.proofs.NumberLemmas.{AreFound}
use Rattle.template_numbers.proofs.listed.listed.Given as goal

abbrev pub invariant-loop-number : goal.invariant-loop-number
invariant-loop-number l =
    AreFound (is_listed l.form (map declared_tree l.declarations)) (length l.declarations) l.number l.all.items
