-- The cells that an expression looks at, and its surroundings.
use Rattle.std.specs.Prelude.{ℕ, Bool, List, [], ◌∷◌, Option, Some, None, option_and_then}
use Rattle.arm_value.specs.Json.{Json}
use Rattle.arm_ids.specs.declared.id.Place.{Place}
use Rattle.arm_ids.specs.declared.id.ResourceId.{ResourceId}
use Rattle.arm_env.specs.declared.env.Looping.{Looping}
use Rattle.reading.specs.Reading.{Reading, done, ask, pure, continued, both}

-- a parameter or a variable by its folded name, an output of the nested deployment at a key by its
-- folded name, the state at a key, what a text that is no id stands for, whether a nested deployment
-- can be seen at a key, and the outputs that it has
pub data Look : Type 0 where
  parameter : List ℕ → Look
  variable : List ℕ → Look
  output : ResourceId → List ℕ → Look
  state : ResourceId → Look
  named : List ℕ → Look
  deployment : ResourceId → Look
  outputs : ResourceId → Look

-- an output, as its template declares it
pub record Declared : Type 0 where
  pub name : List ℕ
  pub kind : List ℕ

-- what a cell has: the value of an entry or a state, the key that a text stands for, whether there is
-- a nested deployment, or the outputs that it has
pub data Fact : Type 0 where
  a_value : Json → Fact
  a_key : ResourceId → Fact
  a_truth : Bool → Fact
  a_list : List Declared → Fact

-- what looks at such cells, one after another, and then has a value or none
abbrev pub Looking : Type 0 → Type 0
Looking A = Reading Look Fact A

-- what a cell has, where it is of this kind
unfoldable pub seen : {A : Type 0} → (Fact → Option A) → Look → Looking A
seen f c = ask c (λ o. done (option_and_then f o))

abbrev pub json_in : Fact → Option Json
json_in (a_value j) = Some j
json_in _ = None

abbrev pub key_in : Fact → Option ResourceId
key_in (a_key k) = Some k
key_in _ = None

abbrev pub truth_in : Fact → Option Bool
truth_in (a_truth b) = Some b
truth_in _ = None

abbrev pub list_in : Fact → Option (List Declared)
list_in (a_list xs) = Some xs
list_in _ = None

-- the values of all of these, all of which are looked at, also after one without a value
unfoldable pub all : {A : Type 0} → List (Looking A) → Looking (List A)
all [] = pure []
all (o ∷ os) = continued (both o (all os)) (λ p. pure (p.0 ∷ p.1))

-- the surroundings of an expression, which are always known
pub record Surroundings : Type 0 where
  -- the nearest first
  pub loops : List Looping
  pub place : Place
