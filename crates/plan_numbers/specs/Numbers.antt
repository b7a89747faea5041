-- The numbers of the tasks of a plan: who puts at a key, and who enters and leaves a scope.
use Rattle.std.specs.Prelude.{◌≡◌, ℕ, ◌<◌, ◌≤◌, zero, suc, false, List, [], ◌∷◌, map, drop, length, slice_get}
use Rattle.std.specs.Prelude.{Option, Some, None}
use Rattle.arm_ids.specs.declared.id.ResourceId.{ResourceId}
use Rattle.reading.specs.World.{Each}
use Rattle.tag_places.specs.Places.{Tag, first_place, ArePlaces}
use Rattle.key_tags.specs.KeyCodes.{key_code}
use Rattle.plan_cells.specs.Resources.{Listed, nested_in}
use Rattle.plan_table.specs.declared.table.Table.{Table}
use Rattle.plan_table.specs.Lines.{IsNumber}
use Rattle.plan_table.specs.Found.{scope_at}
use Rattle.plan_tasks.specs.Start.{IsPutAt}
use Rattle.history_plans.specs.Task.{Task}
use Rattle.history_plans.specs.Task.TheVariants.{Enter, Put, Leave, Delete}
pub use Rattle.plan_numbers.specs.declared.numbers.Numbers.{Numbers}

abbrev pub key_tag : Option ResourceId → Option Tag
key_tag None = None
key_tag (Some k) = Some (key_code k)

-- the tag of the key at which a task puts
abbrev pub put_tag : Task → Option ResourceId → Option Tag
put_tag (Put f r i) o = key_tag o
put_tag (Enter f) o = None
put_tag (Leave f) o = None
put_tag (Delete k) o = None

-- how many of these tasks put
abbrev pub puts_in : List Task → ℕ
puts_in [] = zero
puts_in (Put f r i ∷ us) = suc (puts_in us)
puts_in (Enter f ∷ us) = puts_in us
puts_in (Leave f ∷ us) = puts_in us
puts_in (Delete k ∷ us) = puts_in us

-- of each task the tag of its key, where these are the keys of the puts in their order
abbrev pub put_tags : List Task → List ResourceId → List (Option Tag)
put_tags [] ks = []
put_tags (Put f r i ∷ us) ks = key_tag (slice_get ks 0) ∷ put_tags us (drop 1 ks)
put_tags (Enter f ∷ us) ks = None ∷ put_tags us ks
put_tags (Leave f ∷ us) ks = None ∷ put_tags us ks
put_tags (Delete k ∷ us) ks = None ∷ put_tags us ks

-- each tag is that of one place
abbrev pub AreApart : List (Option Tag) → Type 0
AreApart os = (i j : ℕ) (t : Tag) → slice_get os i ≡ Some (Some t) → slice_get os j ≡ Some (Some t) → i ≡ j

-- each of these tasks that puts has a key, and no two put at one
pub record HaveOwnKeys (us : List Task) (ks : List ResourceId) : Type 0 where
  pub enough : puts_in us ≤ length ks
  pub apart : AreApart (put_tags us ks)

-- the tag of a scope that is entered, and of one that is left
abbrev pub enter_tag : Task → Option Tag
enter_tag (Enter f) = Some (f ∷ [])
enter_tag (Put f r i) = None
enter_tag (Leave f) = None
enter_tag (Delete k) = None

abbrev pub leave_tag : Task → Option Tag
leave_tag (Leave f) = Some (f ∷ [])
leave_tag (Enter f) = None
leave_tag (Put f r i) = None
leave_tag (Delete k) = None

-- the resource is neither existing nor a nested deployment
abbrev pub IsPutResource : Listed → Type 0
IsPutResource x = (x.declaration.existing ≡ false) × (nested_in x.content ≡ None)

-- the task is of a scope of the table, and puts a resource of it that is no nested deployment
abbrev pub IsOfTable : Table → Task → Type 0
IsOfTable t (Enter f) = f < length t.frames.items
IsOfTable t (Put f r i) =
    (f < length t.frames.items) × (IsNumber (scope_at t f) r × ((i < 800) × IsPutAt t f r))
IsOfTable t (Leave f) = f < length t.frames.items
IsOfTable t (Delete k) = Unit {0}

-- the scope has a place
abbrev pub HasPlace : List (Option Tag) → ℕ → Type 0
HasPlace os f = (u : ℕ) × (first_place (f ∷ []) os ≡ Some u)

-- each scope of the table is entered and left, by tasks that are of the table; no two put at one key; and their numbers
-- have at most 32 bits
pub record AreOfScopes (t : Table) (us : List Task) (ks : List ResourceId) : Type 0 where
  pub few : length us ≤ 4294967295
  pub keys : HaveOwnKeys us ks
  pub entered : (f : ℕ) → f < length t.frames.items → HasPlace (map enter_tag us) f
  pub left : (f : ℕ) → f < length t.frames.items → HasPlace (map leave_tag us) f
  pub of_table : Each (IsOfTable t) us

-- these are the numbers of such tasks
pub record AreNumbers (t : Table) (us : List Task) (ks : List ResourceId) (n : Numbers) : Type 0 where
  pub of_scopes : AreOfScopes t us ks
  pub puts : ArePlaces n.puts (put_tags us ks)
  pub enters : ArePlaces n.enters (map enter_tag us)
  pub leaves : ArePlaces n.leaves (map leave_tag us)
