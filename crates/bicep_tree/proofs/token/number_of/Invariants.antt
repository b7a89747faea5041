use Rattle.std.proofs.Common.{◌≡◌, drop}
use Rattle.bicep_lexer.specs.Bytes.{number_from}
use Rattle.bicep_tree.proofs.token.number_of.Given as goal

-- the digits that are left, written after the number so far, write what all digits write
abbrev pub invariant-loop-digit : goal.invariant-loop-digit
invariant-loop-digit l = number_from l.number (drop l.digit-index l.digits) ≡ number_from 0 l.digits
