use Rattle.std.proofs.Common.{◌≡◌, ◌∷◌, ◌++◌, drop}
use Rattle.plan_needs.proofs.deletes.child_tag.Given as goal

abbrev pub invariant-loop-number : goal.invariant-loop-number
invariant-loop-number l = l.tag.items ++ drop l.number-index l.key ≡ 4 ∷ l.key
