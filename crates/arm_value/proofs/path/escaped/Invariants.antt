use Rattle.std.proofs.Common.{◌≡◌, string_bytes, encode_utf8_all}
use Rattle.arm_value.specs.Pointer.{token}
use Rattle.arm_value.proofs.path.escaped.Given as goal

abbrev pub invariant-loop-c : goal.invariant-loop-c
invariant-loop-c l = string_bytes l.escaped ≡ encode_utf8_all (token l.yielded)
