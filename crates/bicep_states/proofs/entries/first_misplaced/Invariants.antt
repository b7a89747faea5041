use Rattle.std.proofs.Common.{◌≡◌, map, drop}
use Rattle.bicep_declared.specs.View.{declared_tree}
use Rattle.bicep_mentions.specs.Entries.{misplaced_from}
use Rattle.bicep_states.specs.View.{known}
use Rattle.bicep_states.proofs.entries.first_misplaced.Given as goal

-- none of the variables before is misplaced
abbrev pub invariant-loop-number : goal.invariant-loop-number
invariant-loop-number l =
    misplaced_from (known l.table).own 0 (map declared_tree l.declarations)
    ≡ misplaced_from (known l.table).own l.number (map declared_tree (drop l.number l.declarations))
