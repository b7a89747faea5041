-- The first part of a job's record in the journal: which worker was asked for what.
use Rattle.std.specs.Prelude.{ℕ, pos, List, [], ◌∷◌, codes}
use Rattle.serde_json.specs.Written.{compact_text}
use Rattle.arm_value.specs.Json.{Json, int, text, object, pairs, Member}
use Rattle.arm_value.specs.Reading.{data_of}

-- what a worker is asked: the task and the worker by their numbers, the id of the resource, the version of its type
-- and its body; a deletion has an empty version and a null body
pub record Assignment : Type 0 where
  pub api : List ℕ
  pub body : Json
  pub id : List ℕ
  pub task : ℕ
  pub worker : ℕ

-- the members of the first part, in the order of their names
unfoldable pub first_members : Assignment → List Member
first_members a =
    (codes "api", text a.api) ∷ (codes "body", a.body) ∷ (codes "id", text a.id)
    ∷ (codes "task", int (pos a.task)) ∷ (codes "worker", int (pos a.worker)) ∷ []

-- the object of these members
abbrev pub first_value : Assignment → Json
first_value a = object (pairs (first_members a))

-- the first part: this object as compact JSON
abbrev pub first_part : Assignment → List ℕ
first_part a = compact_text (data_of (first_value a))
