-- Two lists of tasks that are to be looked at: those of scopes and the others.
use Rattle.std.specs.Prelude.{◌≡◌, ◌⊎◌, ◌<◌, ◌≤◌, ◌+◌, ◌==◌, ℕ, Bool, true, false, List, length}
use Rattle.std.specs.Prelude.{slice_index_or, if◌then◌else◌}
use Rattle.std.specs.Prelude.{Option, Some, None, Result, Ok, Err}
use Rattle.std.specs.declared.alloc.AllocError.{AllocError}
use Rattle.std.specs.BTreeSet.{BTreeSet, contains, btree_set_len}
use Rattle.std.specs.Ordering.{nat_cmp}
use Rattle.depend_graph.specs.Shape.{Shape, undone_needs}

-- whether the task enters or leaves a scope, where the list has that of each task
abbrev pub is_scope : List Bool → ℕ → Bool
is_scope kinds u = slice_index_or kinds u false

abbrev pub has : BTreeSet ℕ → ℕ → Bool
has s u = contains nat_cmp s u

-- whether the task is in the list that is its own
abbrev pub is_listed_in : List Bool → BTreeSet ℕ → BTreeSet ℕ → ℕ → Bool
is_listed_in kinds scopes acts u = if is_scope kinds u then has scopes u else has acts u

-- each is in the list that is its own
pub record AreApart (kinds : List Bool) (scopes acts : BTreeSet ℕ) : Type 0 where
  pub are_scopes : (u : ℕ) → has scopes u ≡ true → is_scope kinds u ≡ true
  pub are_acts : (u : ℕ) → has acts u ≡ true → (u < length kinds) × (is_scope kinds u ≡ false)

-- a need of the task is not done
abbrev pub IsHeldUp : Shape → ℕ → Type 0
IsHeldUp g u = 0 < length (undone_needs g u)

-- what was listed is listed still, what is listed besides needs nothing that is not done, and each is in its own list
pub record ListsMore (g : Shape) (kinds : List Bool) (scopes acts new_scopes new_acts : BTreeSet ℕ) : Type 0 where
  pub only : (u : ℕ) → is_listed_in kinds new_scopes new_acts u ≡ true
      → (is_listed_in kinds scopes acts u ≡ true) ⊎ (length (undone_needs g u) ≡ 0)
  pub keeps : (u : ℕ) → is_listed_in kinds scopes acts u ≡ true → is_listed_in kinds new_scopes new_acts u ≡ true
  pub apart : AreApart kinds scopes acts → AreApart kinds new_scopes new_acts

-- it is listed, or a need of it is not done
abbrev pub IsSeenTo : Shape → List Bool → BTreeSet ℕ → BTreeSet ℕ → ℕ → Type 0
IsSeenTo g kinds scopes acts u = (is_listed_in kinds scopes acts u ≡ true) ⊎ IsHeldUp g u

-- after Ok the set has the task besides; after an error it is unchanged
abbrev pub Adds : BTreeSet ℕ → BTreeSet ℕ → ℕ → Result (Unit {0}) AllocError → Type 0
Adds old new task (Ok done) = (u : ℕ) → has new u ≡ (if u == task then true else has old u)
Adds old new task (Err e) = (u : ℕ) → has new u ≡ has old u

-- the set has the task no more
pub record Loses (old new : BTreeSet ℕ) (task : ℕ) : Type 0 where
  pub members : (u : ℕ) → has new u ≡ (if u == task then false else has old u)
  pub size : btree_set_len new + (if has old task then 1 else 0) ≡ btree_set_len old

-- the least number of the set, and none where it is empty
abbrev pub IsLeast : BTreeSet ℕ → Option ℕ → Type 0
IsLeast s None = (u : ℕ) → has s u ≡ false
IsLeast s (Some v) = (has s v ≡ true) × ((u : ℕ) → has s u ≡ true → v ≤ u)
