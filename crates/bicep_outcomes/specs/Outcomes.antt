-- What is returned for readings of cells, and how what is returned follows from what is given.
use Rattle.std.specs.Prelude.{◌≡◌, ◌≤◌, ◌++◌, ℕ, Bool, true, false, List, [], ◌∷◌, map, Option, Some, None}
use Rattle.std.specs.Prelude.{option_map, Result, Ok, Err}
use Rattle.std.specs.declared.vec.Vec.{Vec}
use Rattle.std.specs.declared.alloc.Global.{Global}
use Rattle.arm_value.specs.Json.{Json, null, bool, Member, items_nesting, members_nesting}
use Rattle.arm_value.specs.View.{json, member}
use Rattle.arm_value.specs.declared.value.Value.{Value}
use Rattle.arm_value.specs.declared.value.Field.{Field}
use Rattle.arm_env.specs.Object.{object_of}
use Rattle.arm_env.specs.Part.{part_of}
use Rattle.arm_env.specs.declared.function.Strict.{Strict}
use Rattle.arm_env.specs.declared.function.Strict.TheVariants as strict
use Rattle.function_numbers.specs.Kinds.{truth_of}
use Rattle.reading.specs.Knowledge.{Told, value, no_value, waits}
use Rattle.bicep_tree.specs.declared.leaf.Operator.{Operator}
use Rattle.bicep_tree.specs.declared.leaf.Operator.TheVariants as o
use Rattle.bicep_meaning.specs.Rows.{array_of, runs_of}
use Rattle.bicep_outcomes.specs.declared.stop.Stop.{Stop}
use Rattle.bicep_outcomes.specs.declared.stop.Stop.TheVariants as stop
use Rattle.bicep_outcomes.specs.declared.loops.Turn.{Turn}
use Rattle.bicep_outcomes.specs.declared.operators.Reach.{Reach}
use Rattle.bicep_outcomes.specs.declared.operators.Reach.TheVariants as reach

-- ---- what is returned for a reading

-- why there is no value, unless memory ran out: there is none, or the cell of a number is waited for
abbrev pub Stops : {C A : Type 0} → (ℕ → C) → Stop → Told C A → Type 0
Stops cell stop.NoValue t = t ≡ no_value
Stops cell (stop.Waits n) t = t ≡ waits (cell n)
Stops cell stop.OutOfMemory t = Unit {0}

-- what is returned, seen by a view, is what is told, unless memory ran out
abbrev pub Gives : {X C A : Type 0} → (ℕ → C) → (X → A) → Result X Stop → Told C A → Type 0
Gives cell view (Ok x) t = t ≡ value (view x)
Gives cell view (Err s) t = Stops cell s t

-- ---- what is returned of what is given

-- a value that may be there
abbrev pub IsFound : {X A : Type 0} → (X → A) → Option A → Result X Stop → Type 0
IsFound view o (Ok x) = o ≡ Some (view x)
IsFound view o (Err stop.NoValue) = o ≡ None
IsFound view o (Err (stop.Waits n)) = ⊥
IsFound view o (Err stop.OutOfMemory) = Unit {0}

-- what f gives of the value that is given; a stop stays
abbrev pub Then : {X Y A B : Type 0} → (X → A) → (Y → B) → (A → Option B) → Result X Stop → Result Y Stop → Type 0
Then from to f (Ok x) r = IsFound to (f (from x)) r
Then from to f (Err s) r = r ≡ Err s

-- both, or else what is waited for first
abbrev pub paired : {X Y : Type 0} → Result X Stop → Result Y Stop → Result (X × Y) Stop
paired (Ok x) (Ok y) = Ok (x, y)
paired (Ok x) (Err s) = Err s
paired (Err stop.NoValue) (Ok y) = Err stop.NoValue
paired (Err stop.NoValue) (Err s) = Err s
paired (Err (stop.Waits n)) r = Err (stop.Waits n)
paired (Err stop.OutOfMemory) r = Err stop.OutOfMemory

-- a copy
abbrev pub IsSame : Result Value Stop → Result Value Stop → Type 0
IsSame (Ok v) (Ok w) = json w ≡ json v
IsSame (Ok v) (Err s) = s ≡ stop.OutOfMemory
IsSame (Err s) r = r ≡ Err s

-- the items, where all were found
abbrev pub listed : {X : Type 0} → Option (Vec X Global) → Option (List X)
listed o = option_map (λ v. v.items) o

-- one more
abbrev pub with_one : {X : Type 0} → Option (List X) → X → Option (List X)
with_one o x = option_map (λ xs. xs ++ x ∷ []) o

-- true of what is returned, unless it is `OutOfMemory`
abbrev pub Lacks : {X : Type 0} → (X → Type 0) → Result X Stop → Type 0
Lacks P (Ok x) = P x
Lacks P (Err s) = s ≡ stop.OutOfMemory

-- what was found so far with one more, which may have no value; any other stop stays
abbrev pub IsAdded : {X : Type 0} → Option (Vec X Global) → Result X Stop → Result (Option (Vec X Global)) Stop → Type 0
IsAdded all (Ok x) r = Lacks (λ more. listed more ≡ with_one (listed all) x) r
IsAdded all (Err stop.NoValue) r = r ≡ Ok None
IsAdded all (Err (stop.Waits n)) r = r ≡ Err (stop.Waits n)
IsAdded all (Err stop.OutOfMemory) r = r ≡ Err stop.OutOfMemory

abbrev pub whole : {X : Type 0} → Option (Vec X Global) → Result (Vec X Global) Stop
whole (Some v) = Ok v
whole None = Err stop.NoValue

-- ---- views

abbrev pub all_json : Vec Value Global → List Json
all_json vs = map json vs.items

abbrev pub all_members : Vec Field Global → List Member
all_members ms = map member ms.items

abbrev pub all_texts : Vec (List ℕ) Global → List (List ℕ)
all_texts ts = ts.items

abbrev pub both_json : (Value × Value) → Json × Json
both_json q = (json q.0, json q.1)

-- ---- parts

abbrev pub truth_alone : Json → Option Json
truth_alone j = option_map bool (truth_of j)

abbrev pub null_left : Json → Bool
null_left null = true
null_left j = false

-- the object of members that nest at most 119 deep
abbrev pub ThenMembers : Result (Vec Field Global) Stop → Result Value Stop → Type 0
ThenMembers (Ok ms) r = members_nesting (all_members ms) ≤ 119 → IsFound json (Some (object_of (all_members ms))) r
ThenMembers (Err s) r = r ≡ Err s

-- the array of values that nest at most 119 deep
abbrev pub ThenItems : Result (Vec Value Global) Stop → Result Value Stop → Type 0
ThenItems (Ok vs) r = items_nesting (all_json vs) ≤ 119 → IsFound json (Some (array_of (all_json vs))) r
ThenItems (Err s) r = r ≡ Err s

-- how far an operator looks at its operands
abbrev pub reach_of : Operator → Reach
reach_of o.Coalesce = reach.Coalesce
reach_of o.Or = reach.Or
reach_of o.And = reach.And
reach_of op = reach.Both

-- a function, where it is one that needs the place
abbrev pub placed_of : Option Strict → Option Strict
placed_of (Some strict.Parameters) = None
placed_of (Some strict.Variables) = None
placed_of (Some strict.Reference) = None
placed_of (Some strict.CopyIndex) = None
placed_of o = o

-- ---- loops

-- the value and how often a loop over it runs
abbrev pub value_and_runs : Json → Option (Json × ℕ)
value_and_runs j = option_map (λ n. (j, n)) (runs_of j)

abbrev pub json_first : (Value × ℕ) → Json × ℕ
json_first q = (json q.0, q.1)

-- the item at an index, each of which may have no value
pub record IsElement (items index : Result Value Stop) (t : Turn) : Type 0 where
  pub copy : Result Value Stop
  pub is_copy : IsSame index copy
  pub has_item : Then both_json json (λ q. part_of q.0 q.1) (paired items copy) t.item
  pub has_index : t.index ≡ index

-- a copy of a run, and of runs
abbrev pub IsCopy : Turn → Turn → Type 0
IsCopy t c = IsSame t.item c.item × IsSame t.index c.index

abbrev pub AreCopies : List Turn → List Turn → Type 0
AreCopies [] [] = Unit {0}
AreCopies (t ∷ ts) (c ∷ cs) = IsCopy t c × AreCopies ts cs
AreCopies _ _ = ⊥

-- copies of runs, with one inside them all
abbrev pub IsInner : Turn → List Turn → List Turn → Type 0
IsInner t ts [] = ⊥
IsInner t ts (c ∷ cs) = (c ≡ t) × AreCopies ts cs

-- a copy of the item, or of the index, of a run that may be there
abbrev pub IsItem : Option Turn → Result Value Stop → Type 0
IsItem None r = r ≡ Err stop.NoValue
IsItem (Some t) r = IsSame t.item r

abbrev pub IsIndex : Option Turn → Result Value Stop → Type 0
IsIndex None r = r ≡ Err stop.NoValue
IsIndex (Some t) r = IsSame t.index r
