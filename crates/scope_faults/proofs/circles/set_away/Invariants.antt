use Rattle.std.proofs.Common.{◌≡◌, length}
use Rattle.point_rows.specs.declared.later.Entry.TheVariants.{Away}
use Rattle.scope_faults.proofs.CircleLemmas.{SetLeft}
use Rattle.scope_faults.proofs.circles.set_away.Given as goal

abbrev pub invariant-each : goal.invariant-each
invariant-each l = record {
  left : SetLeft Away l.lines l.fn.later.entries.items l.later.entries.items l.at-index;
  long : length l.later.entries.items ≡ length l.fn.later.entries.items;
  states : l.later.states.items ≡ l.fn.later.states.items;
  places : l.later.places ≡ l.fn.later.places;
}
