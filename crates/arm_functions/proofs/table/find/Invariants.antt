use Rattle.std.proofs.Common.{◌≡◌, drop, map}
use Rattle.std.specs.Str.{chars}
use Rattle.arm_functions.specs.Table.{row_in}
use Rattle.arm_functions.proofs.table.find.Given as goal

abbrev pub invariant-loop-entry : goal.invariant-loop-entry
invariant-loop-entry l =
    row_in (chars l.name) (map (λ r. (chars r.0.now, r.1, r.2, r.3)) (drop l.entry-index l.entries))
    ≡ row_in (chars l.name) (map (λ r. (chars r.0.now, r.1, r.2, r.3)) l.entries)
