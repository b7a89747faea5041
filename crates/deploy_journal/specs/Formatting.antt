-- What the writing of an empty journal answers.
use Rattle.std.specs.Prelude.{◌≡◌, ℕ, ◌<◌, Bool, true, length, Result, Ok, Err}
use Rattle.arm_edges.specs.Disk.{Parts}
use Rattle.arm_edges.specs.Faults.{Rose}
use Rattle.deploy_journal.specs.declared.formatting.FormatFault.{FormatFault}
use Rattle.deploy_journal.specs.declared.formatting.FormatFault.TheVariants.{NotEmpty, DiskFault}

-- when each answer comes, by whether the disk reports its reads, what a read returns before and after, and the count
-- of faults before and after
abbrev pub FormatAnswers : Bool → Parts → Parts → ℕ → ℕ → Result (Unit {0}) FormatFault → Type 0
FormatAnswers tells old new before after (Ok u) = (tells ≡ true → length old.a ≡ 0) × (after ≡ before)
FormatAnswers tells old new before after (Err (NotEmpty n)) = (tells ≡ true → n ≡ length old.a) × (0 < n)
    × (new ≡ old) × (after ≡ before)
FormatAnswers tells old new before after (Err DiskFault) = Rose before after

-- the answer after which the disk is unchanged
abbrev pub WroteNothing : Result (Unit {0}) FormatFault → Type 0
WroteNothing (Ok u) = ⊥
WroteNothing (Err (NotEmpty n)) = Unit {0}
WroteNothing (Err DiskFault) = ⊥
