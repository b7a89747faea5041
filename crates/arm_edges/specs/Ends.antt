-- The two sides of a connection, as the calls on one side see the other side.
use Rattle.std.specs.Prelude.{ℕ, List, []}

-- what comes in: the bytes that are yet to come, those that were read, and how often a read has failed
pub record Incoming : Type 0 where
  pub rest : List ℕ
  pub received : List ℕ
  pub faults : ℕ

-- what goes out: the bytes that were written, and how often a write has failed
pub record Outgoing : Type 0 where
  pub written : List ℕ
  pub faults : ℕ

-- what comes in, by what is yet to come, what was read, and the count of failed reads
abbrev pub comes_in : List ℕ → List ℕ → ℕ → Incoming
comes_in rest received faults = record { rest = rest; received = received; faults = faults }

-- what goes out, by what was written and the count of failed writes
abbrev pub goes_out : List ℕ → ℕ → Outgoing
goes_out written faults = record { written = written; faults = faults }

-- nothing comes into a sink that is no source
abbrev pub nothing_in : Incoming
nothing_in = comes_in [] [] 0

-- nothing goes out of a source that is no sink
abbrev pub nothing_out : Outgoing
nothing_out = goes_out [] 0
