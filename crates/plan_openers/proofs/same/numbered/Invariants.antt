use Rattle.std.proofs.Common.{◌≡◌, ◌∷◌, ◌++◌, drop}
use Rattle.plan_openers.proofs.same.numbered.Given as goal

abbrev pub invariant-loop-number : goal.invariant-loop-number
invariant-loop-number l = l.tag.items ++ drop l.number-index l.numbers ≡ l.first ∷ l.numbers
