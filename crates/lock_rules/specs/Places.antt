-- The order in which locks are kept: by the ids of their scopes, and then by their names, in small ASCII letters.
use Rattle.std.specs.Prelude.{ℕ, List, [], ◌∷◌, map, Option, Some, None}
use Rattle.std.specs.declared.cmp.Ordering.{Ordering}
use Rattle.std.specs.Ordering.{match_ordering, ordering_then}
use Rattle.std.specs.List.Sorted.{IsStrictlySortedBy}
use Rattle.arm_value.specs.Look.{fold}
use Rattle.arm_ids.specs.ScopeId.{scope_id}
use Rattle.arm_ids.specs.declared.scope.Scope.{Scope}
use Rattle.lock_rules.specs.Texts.{text_cmp}
use Rattle.lock_rules.specs.declared.lock.Lock.{Lock}
use Rattle.lock_rules.specs.declared.place.Place.{Place}

-- the place of a lock on this scope with this name: the id of the scope and the name, in small ASCII letters
abbrev pub place_at : Scope → List ℕ → Place
place_at scope name = record { scope = fold (scope_id scope); name = fold name }

-- the place of a lock
abbrev pub place_of : Lock → Place
place_of lock = place_at lock.scope lock.name

-- the order of places: by the scope, and then by the name
unfoldable pub place_cmp : Place → Place → Ordering
place_cmp a b = ordering_then (text_cmp a.scope b.scope) (text_cmp a.name b.name)

-- each lock is below those after it, so no two are at one place
abbrev pub AreInOrder : List Lock → Type 0
AreInOrder locks = IsStrictlySortedBy place_cmp (map place_of locks)

-- the lock at a place, among locks in order
abbrev pub find : Place → List Lock → Option Lock
find place [] = None
find place (lock ∷ locks) = match_ordering (place_cmp place (place_of lock)) None (Some lock) (find place locks)

-- the locks with this one at its place
abbrev pub put : Lock → List Lock → List Lock
put lock [] = lock ∷ []
put lock (other ∷ locks) =
    match_ordering (place_cmp (place_of lock) (place_of other)) (lock ∷ other ∷ locks) (lock ∷ locks)
    (other ∷ put lock locks)

-- the locks without the one at a place
abbrev pub without : Place → List Lock → List Lock
without place [] = []
without place (lock ∷ locks) =
    match_ordering (place_cmp place (place_of lock)) (lock ∷ locks) locks (lock ∷ without place locks)
