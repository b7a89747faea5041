use Rattle.std.proofs.Common.{◌≡◌, ◌++◌, ◌+◌, map}
use Rattle.key_tags.proofs.code.push_characters.Given as goal

abbrev pub invariant-loop-c : goal.invariant-loop-c
invariant-loop-c l = l.tag.items ≡ l.fn.tag.items ++ map (λ x. x + 1) l.yielded
