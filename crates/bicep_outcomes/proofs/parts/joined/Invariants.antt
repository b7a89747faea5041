use Rattle.std.proofs.Common.{◌≡◌, ◌++◌, drop, string_bytes}
use Rattle.std.specs.Str.{chars}
use Rattle.bicep_meaning.specs.Meaning.{joined}
use Rattle.bicep_outcomes.proofs.parts.joined.Given as goal

-- what was put, and the texts that are left
abbrev pub invariant-loop-text : goal.invariant-loop-text
invariant-loop-text l =
    chars (string_bytes l.out) ++ joined (drop l.text-index l.holes) ≡ l.first ++ joined l.holes
