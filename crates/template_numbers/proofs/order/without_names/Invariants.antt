use Rattle.std.proofs.Common.{◌≡◌, ◌++◌, map}
use Rattle.template_numbers.proofs.order.without_names.Given as goal

-- those that are left come after those that were looked at
abbrev pub invariant-loop-key : goal.invariant-loop-key
invariant-loop-key l = l.all.items ++ map (λ k. k.1) l.key-iterator ≡ map (λ k. k.1) l.named.keys
