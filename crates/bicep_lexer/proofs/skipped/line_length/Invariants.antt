use Rattle.std.proofs.Common.{◌≡◌, ◌+◌, drop}
use Rattle.bicep_lexer.specs.Reader.Scanning.{line_length}
use Rattle.bicep_lexer.proofs.skipped.line_length.Given as goal

-- what the rest still has, and what was passed
abbrev pub invariant-loop-at : goal.invariant-loop-at
invariant-loop-at l = l.at + line_length (drop l.at l.bytes) ≡ line_length l.bytes
