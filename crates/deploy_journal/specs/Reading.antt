-- What calls that only read leave unchanged.
use Rattle.std.specs.Prelude.{◌≡◌, ℕ, Bool, true, Result, OnOk, IfErr}
use Rattle.arm_edges.specs.Disk.{Parts, GoesOn, Unchanged}
use Rattle.arm_edges.specs.Faults.{Rose}
use Rattle.deploy_journal.specs.declared.read.OpenFault.{OpenFault}
use Rattle.deploy_journal.specs.declared.read.OpenFault.TheVariants.{OutOfMemory, Damaged, DiskFault}

-- the disk reads as before, and a crash leaves nothing new
pub record Still {D : Type 0} (tells : Bool) (reads : D → Parts) (moment : D → ℕ) (left : D → ℕ → Parts → Type 0)
    (reach : D → ℕ) (old new : D) : Type 0 where
  pub reads_same : reads new ≡ reads old
  pub reach_same : reach new ≡ reach old
  pub images : tells ≡ true → GoesOn moment left Unchanged old new

-- why a journal is not opened: a fault of the disk comes only where the count rose, and every other one leaves the
-- count
abbrev pub FaultCause : ℕ → ℕ → OpenFault → Type 0
FaultCause before now OutOfMemory = now ≡ before
FaultCause before now (Damaged at) = now ≡ before
FaultCause before now DiskFault = Rose before now

-- the same of a call that reads the journal; where it answers, the count stays
pub record OpenCause {T : Type 0} (before now : ℕ) (result : Result T OpenFault) : Type 0 where
  pub failed : IfErr result (FaultCause before now)
  pub stays : OnOk result (now ≡ before)

-- the fault is no damage
abbrev pub IsNoDamage : OpenFault → Type 0
IsNoDamage OutOfMemory = Unit {0}
IsNoDamage (Damaged at) = ⊥
IsNoDamage DiskFault = Unit {0}

-- the same of a call that finds no damage
pub record ReadCause {T : Type 0} (before now : ℕ) (result : Result T OpenFault) : Type 0 where
  pub failed : IfErr result (FaultCause before now)
  pub stays : OnOk result (now ≡ before)
  pub undamaged : IfErr result IsNoDamage
