use Rattle.std.proofs.Common.{◌≡◌, ℕ, length}
use Rattle.point_rows.specs.declared.later.Entry.TheVariants.{Missing}
use Rattle.point_rows.specs.Rows.{entry_at}
use Rattle.point_rows.proofs.keeping.no_entries.Given as goal

abbrev pub invariant-entries : goal.invariant-entries
invariant-entries l =
    (length l.entries.items ≡ l.counter) × ((j : ℕ) → entry_at l.entries.items j ≡ Missing)
