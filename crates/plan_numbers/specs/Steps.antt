-- The numbers of the first tasks of a plan.
use Rattle.std.specs.Prelude.{◌≡◌, ℕ, ◌≤◌, Bool, true, false, List, [], ◌∷◌, ◌++◌, map, Option, Some, None}
use Rattle.arm_ids.specs.declared.id.ResourceId.{ResourceId}
use Rattle.tag_places.specs.Places.{Tag, Places, ArePlaces}
use Rattle.history_plans.specs.Task.{Task}
use Rattle.plan_numbers.specs.declared.numbers.Numbers.{Numbers}
use Rattle.plan_numbers.specs.Numbers.{key_tag, put_tags, enter_tag, leave_tag, AreApart, HaveOwnKeys}

-- these are the places of the keys of these tasks, and no two put at one key
pub record IsNumbered (m : Places) (us : List Task) (ks : List ResourceId) : Type 0 where
  pub places : ArePlaces m (put_tags us ks)
  pub keys : HaveOwnKeys us ks

-- a place with the tag of a key comes last, and where these are apart so they are with it
pub record IsAdded (os : List (Option Tag)) (k : Option ResourceId) (m : Places) : Type 0 where
  pub places : ArePlaces m (os ++ key_tag k ∷ [])
  pub apart : AreApart os → AreApart (os ++ key_tag k ∷ [])

abbrev pub AddsKey : List (Option Tag) → Option ResourceId → Places → Bool → Type 0
AddsKey os k m true = IsAdded os k m
AddsKey os k m false = AreApart (os ++ key_tag k ∷ []) → ⊥

-- the task of the place has this number, where it has at most 32 bits
abbrev pub IsNumberOf : Option ℕ → Option ℕ → Type 0
IsNumberOf None o = o ≡ None
IsNumberOf (Some n) o = n ≤ 4294967295 → o ≡ Some n

-- these are the numbers of these tasks
pub record AreListed (us : List Task) (ks : List ResourceId) (n : Numbers) : Type 0 where
  pub puts : IsNumbered n.puts us ks
  pub enters : ArePlaces n.enters (map enter_tag us)
  pub leaves : ArePlaces n.leaves (map leave_tag us)
