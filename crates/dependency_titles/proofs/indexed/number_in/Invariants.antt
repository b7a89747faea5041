use Rattle.std.proofs.Common.{◌≡◌, drop, length, None}
use Rattle.std.specs.Str.{chars}
use Rattle.arm_eval.specs.Titles.{number_from}
use Rattle.dependency_titles.proofs.indexed.number_in.Given as goal

abbrev pub invariant-loop-c : goal.invariant-loop-c
invariant-loop-c l = number_from None (chars l.text) ≡ number_from l.number (drop (length l.yielded) (chars l.text))
