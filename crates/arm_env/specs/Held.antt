-- What an expression gives to an access to a part of it.
use Rattle.std.specs.Prelude.{ℕ, Bool, false, List, [], ◌∷◌, Option, Some, None, codes, map}
use Rattle.std.specs.Prelude.{if◌then◌else◌}
use Rattle.arm_value.specs.Json.{Json, text, Member}
use Rattle.arm_value.specs.Look.{fold, is_same_folded}
use Rattle.arm_ids.specs.declared.id.ResourceId.{ResourceId}
use Rattle.reading.specs.Reading.{done, pure, none, continued}
use Rattle.arm_env.specs.Look as look
use Rattle.arm_env.specs.Look.{Looking, Declared, seen, json_in, list_in, all}
use Rattle.arm_env.specs.Part.{part_of, kept}
use Rattle.arm_env.specs.Object.{object_of}
use Rattle.arm_env.specs.Find.{output_named}

-- the output of a name of the nested deployment at a key
pub record OutputOf : Type 0 where
  pub key : ResourceId
  pub name : List ℕ

-- a value, a whole state, or a nested deployment, its outputs, or one of them, which are looked at
-- when they are used
pub data Held : Type 0 where
  plain : Json → Held
  state_whole : Json → Held
  deployment : ResourceId → Held
  outputs : ResourceId → Held
  one_output : OutputOf → Held

-- no value where it nests deeper than 100
unfoldable pub capped : Looking Json → Looking Json
capped o = continued o (λ j. done (kept j))

unfoldable pub held_value : Looking Json → Looking Held
held_value o = continued (capped o) (λ j. pure (plain j))

-- the value of the output of a name
abbrev pub value_named : ResourceId → List ℕ → Looking Json
value_named k name = capped (seen json_in (look.output k (fold name)))

-- the value of an output
abbrev pub output_value : ResourceId → Declared → Looking Json
output_value k x = value_named k x.name

-- an output as `reference` shows it
abbrev pub typed : Declared → Json → Json
typed x j = object_of ((codes "type", text x.kind) ∷ (codes "value", j) ∷ [])

abbrev pub shown : Declared → Json → Member
shown x j = (x.name, typed x j)

abbrev pub output_member : ResourceId → Declared → Looking Member
output_member k x = continued (output_value k x) (λ j. pure (shown x j))

-- these outputs, all of which are looked at
abbrev pub members : ResourceId → List Declared → Looking (List Member)
members k xs = all (map (output_member k) xs)

-- the outputs that the nested deployment at a key has
abbrev pub listing : ResourceId → Looking (List Declared)
listing k = seen list_in (look.outputs k)

-- all outputs of a nested deployment, all of which are looked at
unfoldable pub all_outputs : ResourceId → Looking (List Member)
all_outputs k = continued (listing k) (members k)

-- a part that a nested deployment does not have: all its outputs are looked at
abbrev pub no_part : {A : Type 0} → ResourceId → Looking A
no_part k = continued (all_outputs k) (λ ms. none)

-- one of these outputs, after a look at all of them
abbrev pub among : OutputOf → List Declared → Looking Declared
among o xs = continued (members o.key xs) (λ ms. done (output_named o.name xs))

-- an output as it is declared, for which all outputs are looked at
unfoldable pub output_declared : OutputOf → Looking Declared
output_declared o = continued (listing o.key) (among o)

-- its value, where no part of it is accessed
abbrev pub forced : Held → Looking Json
forced (plain j) = pure j
forced (state_whole j) = pure j
forced (deployment k) =
    continued (all_outputs k) (λ ms. pure (object_of ((codes "outputs", object_of ms) ∷ [])))
forced (outputs k) = continued (all_outputs k) (λ ms. pure (object_of ms))
forced (one_output o) =
    continued (output_declared o) (λ x. continued (output_value o.key x) (λ j. pure (typed x j)))

abbrev pub is_word : List ℕ → Json → Bool
is_word word (text name) = is_same_folded word name
is_word word _ = false

-- the output of a name
abbrev pub output_at : ResourceId → Json → Looking Held
output_at k (text name) = pure (one_output (record { key = k; name = name }))
output_at k _ = no_part k

-- the type of an output, for which all outputs are looked at
abbrev pub kind_of_output : OutputOf → Looking Held
kind_of_output o = continued (output_declared o) (λ x. pure (plain (text x.kind)))

-- the part of an output: its value looks at this output alone
abbrev pub part_of_output : OutputOf → Json → Looking Held
part_of_output o i =
    if is_word (codes "value") i then held_value (value_named o.key o.name)
    else if is_word (codes "type") i then kind_of_output o
    else no_part o.key

-- the part under a name or at a place
abbrev pub access : Held → Json → Looking Held
access (plain j) i = held_value (done (part_of j i))
access (state_whole j) i = held_value (done (part_of j i))
access (deployment k) i = if is_word (codes "outputs") i then pure (outputs k) else no_part k
access (outputs k) i = output_at k i
access (one_output o) i = part_of_output o i

-- by an index that may have no value, where all is looked at all the same
abbrev pub access_by : Held → Option Json → Looking Held
access_by h None = continued (forced h) (λ j. none)
access_by h (Some i) = access h i
