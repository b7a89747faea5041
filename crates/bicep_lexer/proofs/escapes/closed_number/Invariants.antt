use Rattle.std.proofs.Common.{◌≡◌, drop, ◌<◌, ◌^◌, ◌-◌, ◌≤◌}
use Rattle.bicep_lexer.specs.Reader.Scanning.{closed_number}
use Rattle.bicep_lexer.proofs.escapes.closed_number.Given as goal

-- the bytes that are left, after the digits so far, write what all bytes write, and the number fits its digits
abbrev pub invariant-loop-byte : goal.invariant-loop-byte
invariant-loop-byte l = record {
  same : closed_number l.digits l.number (drop l.byte-index l.bytes) ≡ closed_number 6 0 l.bytes;
  within : l.digits ≤ 6;
  small : l.number < 16 ^ (6 - l.digits);
}
