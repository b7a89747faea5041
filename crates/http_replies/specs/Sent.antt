-- What a sink has written after it was given bytes to write.
use Rattle.std.specs.Prelude.{◌≡◌, ℕ, Bool, true, List, ◌++◌, take, Result, Ok, Err}
use Rattle.arm_edges.specs.Faults.{Rose}
use Rattle.arm_edges.specs.declared.faults.Failed.{Failed}
use Rattle.http_replies.specs.declared.write.WriteFault.{WriteFault}
use Rattle.http_replies.specs.declared.write.WriteFault.TheVariants.{Fault, OutOfMemory}

-- the old bytes, and after them a beginning of these and nothing else
abbrev pub IsPart : List ℕ → List ℕ → List ℕ → Type 0
IsPart old bytes new = (n : ℕ) × (new ≡ old ++ take n bytes)

-- all the bytes were written, or a beginning of them where the sink failed
abbrev pub Sent : Bool → List ℕ → List ℕ → List ℕ → Result (Unit {0}) Failed → Type 0
Sent tells old new bytes (Ok done) = tells ≡ true → new ≡ old ++ bytes
Sent tells old new bytes (Err failed) = tells ≡ true → IsPart old bytes new

-- all the bytes were written, a beginning of them where the sink failed, and nothing where memory ran out
abbrev pub Wrote : Bool → List ℕ → List ℕ → List ℕ → Result (Unit {0}) WriteFault → Type 0
Wrote tells old new bytes (Ok done) = tells ≡ true → new ≡ old ++ bytes
Wrote tells old new bytes (Err Fault) = tells ≡ true → IsPart old bytes new
Wrote tells old new bytes (Err OutOfMemory) = new ≡ old

-- a write failed only where the sink's count of faults rose; every other answer leaves the count
abbrev pub WriteCause : ℕ → ℕ → Result (Unit {0}) WriteFault → Type 0
WriteCause before now (Ok done) = now ≡ before
WriteCause before now (Err Fault) = Rose before now
WriteCause before now (Err OutOfMemory) = now ≡ before
