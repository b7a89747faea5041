use Rattle.std.proofs.Common.{map}
use Rattle.arm_value.specs.View.{json}
use Rattle.plan_elements.proofs.ElementLemmas.{ElementsLeft}
use Rattle.plan_elements.proofs.elements.elements_read.Given as goal

abbrev pub invariant-elements : goal.invariant-elements
invariant-elements l =
    ElementsLeft l.register.table l.opener (map json l.trees) (map json l.values.items) l.number
