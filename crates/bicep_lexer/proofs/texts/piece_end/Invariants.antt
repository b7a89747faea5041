use Rattle.std.proofs.Common.{◌≡◌, drop, false}
use Rattle.bicep_lexer.specs.Reader.Scanning.{piece_end, further}
use Rattle.bicep_lexer.proofs.texts.piece_end.Given as goal

-- how the rest ends, seen from the front
abbrev pub invariant-loop-at : goal.invariant-loop-at
invariant-loop-at l = further l.at (piece_end l.escaped (drop l.at l.bytes)) ≡ piece_end false l.bytes
