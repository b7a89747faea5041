use Rattle.std.proofs.Common.{◌≡◌, ◌+◌, drop, option_map}
use Rattle.bicep_lexer.specs.Reader.Scanning.{verbatim_length}
use Rattle.bicep_lexer.proofs.texts.verbatim_length.Given as goal

-- what the rest still has, and what was passed
abbrev pub invariant-loop-at : goal.invariant-loop-at
invariant-loop-at l = option_map (λ n. l.at + n) (verbatim_length (drop l.at l.bytes)) ≡ verbatim_length l.bytes
