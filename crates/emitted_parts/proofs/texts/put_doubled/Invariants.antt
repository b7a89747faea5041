use Rattle.std.proofs.Common.{◌≡◌, ◌++◌, ℕ, List, length, drop}
use Rattle.std.specs.Str.{chars}
use Rattle.arm_expr.specs.View.{text_of}
use Rattle.bicep_emission.specs.Texts.{doubled_onto}
use Rattle.emitted_parts.proofs.texts.put_doubled.Given as goal

-- what is left goes after what is written
abbrev pub invariant-loop-c : goal.invariant-loop-c
invariant-loop-c l = (k : List ℕ)
    → text_of l.out ++ doubled_onto (drop (length l.yielded) (chars l.characters)) k
    ≡ text_of l.fn.out ++ doubled_onto (chars l.characters) k
