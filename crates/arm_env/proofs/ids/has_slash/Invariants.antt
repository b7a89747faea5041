use Rattle.std.proofs.Common.{◌≡◌, drop, length}
use Rattle.std.specs.Str.{chars}
use Rattle.arm_ids.specs.Segments.{has_slash}
use Rattle.arm_env.proofs.ids.has_slash.Given as goal

abbrev pub invariant-loop-c : goal.invariant-loop-c
invariant-loop-c l = has_slash (chars l.text) ≡ has_slash (drop (length l.yielded) (chars l.text))
