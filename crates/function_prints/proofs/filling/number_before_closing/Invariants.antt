use Rattle.std.proofs.Common.{◌≡◌, ◌<◌, drop}
use Rattle.function_prints.specs.Filling.{number_before_closing}
use Rattle.function_prints.proofs.FormatLemmas.{numbered_from}
use Rattle.function_prints.proofs.filling.number_before_closing.Given as goal

-- the number so far, and the characters that are left
abbrev pub invariant-loop-i : goal.invariant-loop-i
invariant-loop-i l = record {
  left : numbered_from l.bound l.i l.number (drop l.i l.characters) ≡ number_before_closing l.bound l.characters;
  within : 0 < l.i → l.number < l.bound;
}
