-- Counts of faults.
use Rattle.std.specs.Prelude.{◌≡◌, ℕ, ◌+◌, ◌≤◌, min, Result, OnOk, OnErr}
use Rattle.arm_edges.specs.declared.faults.Failed.{Failed}

-- a count, which is kept in 64 bits and stays at the largest number there once it has reached it, has risen
abbrev pub Rose : ℕ → ℕ → Type 0
Rose before now = min (before + 1) 18446744073709551615 ≤ now

-- the count never falls; a call fails only where it rose in that call, and leaves it where it answers
pub record HasCause {T : Type 0} (before now : ℕ) (result : Result T Failed) : Type 0 where
  pub later : before ≤ now
  pub failed : OnErr result (Rose before now)
  pub stays : OnOk result (now ≡ before)
