-- What an append answers, and when.
use Rattle.std.specs.Prelude.{◌≡◌, ℕ, ◌<◌, ◌≤◌, min, Bool, true, false, Result, Ok, Err}
use Rattle.arm_edges.specs.Faults.{Rose}
use Rattle.deploy_journal.specs.declared.journal.AppendFault.{AppendFault}
use Rattle.deploy_journal.specs.declared.journal.AppendFault.TheVariants.{Full, DiskFault, MustReopen}

-- what a caller sees of a journal beside its records: whether it must be reopened, its live length, and its disk's
-- count of faults
pub record Standing : Type 0 where
  pub must_reopen : Bool
  pub length : ℕ
  pub faults : ℕ

-- what a caller sees, from its parts
abbrev pub standing : Bool → ℕ → ℕ → Standing
standing must_reopen length faults = record { must_reopen = must_reopen; length = length; faults = faults }

-- the answer of a journal to a record with which its length would be sum, under that limit, by what a caller sees of
-- the journal before and after
abbrev pub AppendAnswers : Standing → Standing → ℕ → ℕ → Result (Unit {0}) AppendFault → Type 0
AppendAnswers old new sum limit (Ok u) = (old.must_reopen ≡ false) × (sum ≤ limit) × (new.must_reopen ≡ false)
    × (new.length ≡ sum) × (new.faults ≡ old.faults)
AppendAnswers old new sum limit (Err (Full length needed)) = (old.must_reopen ≡ false) × (limit < sum)
    × (length ≡ old.length) × (needed ≡ min sum 18446744073709551615) × (new ≡ old)
AppendAnswers old new sum limit (Err DiskFault) = (old.must_reopen ≡ false) × (sum ≤ limit)
    × Rose old.faults new.faults × (new.must_reopen ≡ true) × (new.length ≡ old.length)
AppendAnswers old new sum limit (Err MustReopen) = (old.must_reopen ≡ true) × (new ≡ old)

-- the answers after which the disk is unchanged
abbrev pub DidNothing : Result (Unit {0}) AppendFault → Type 0
DidNothing (Ok u) = ⊥
DidNothing (Err (Full length needed)) = Unit {0}
DidNothing (Err DiskFault) = ⊥
DidNothing (Err MustReopen) = Unit {0}
