-- Tasks that are no deletions: the entries and leaves of scopes, and the puts of resources.
use Rattle.plan_cells.specs.Tasks.{Task, delete}

abbrev pub IsNoDeletion : Task → Type 0
IsNoDeletion (delete k) = ⊥
IsNoDeletion x = Unit {0}
