use Rattle.std.proofs.Common.{◌≡◌, ◌++◌, ◌-◌, ◌*◌, drop, length, map}
use Rattle.function_identities.specs.Base32.{base32, bits_of, groups_of, symbol_of}
use Rattle.function_identities.proofs.base32.base32.Given as goal

-- the symbols so far, and those of the bits that are left
abbrev pub invariant-loop-place : goal.invariant-loop-place
invariant-loop-place l = l.symbols.items ++ map symbol_of (groups_of (drop l.place (bits_of l.bytes))) ≡ base32 l.bytes

abbrev pub decreases-loop-place : goal.decreases-loop-place
decreases-loop-place l = length l.bytes * 8 - l.place
