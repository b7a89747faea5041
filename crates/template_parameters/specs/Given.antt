-- What is given for the parameters of a template: an object as `{"name": {"value": 1}}`.
use Rattle.std.specs.Prelude.{◌≡◌, ℕ, Bool, List, [], ◌∷◌, ◌++◌, map, Option, Some, None, Result, Ok, Err}
use Rattle.std.specs.Prelude.{codes, if◌then◌else◌}
use Rattle.arm_value.specs.Json.{Json, object, Pairs, no_pairs, pair}
use Rattle.arm_value.specs.Look.{is_same_folded}
use Rattle.arm_value.specs.Pointer.{step, token}
use Rattle.arm_value.specs.View.{json}
use Rattle.name_set.specs.Names.{is_named}
use Rattle.template_parts.specs.declared.fault.TemplateFault.{TemplateFault}
use Rattle.template_parts.specs.declared.fault.TemplateFault.TheVariants.{WrongForm, OutOfMemory}
use Rattle.template_parts.specs.declared.given.GivenValue.{GivenValue}

-- a name and a value
abbrev pub Entry : Type 0
Entry = List ℕ × Json

abbrev pub given_view : GivenValue → Entry
given_view g = (g.name, json g.value)

-- whether the name is `value`, in letters of any case
abbrev pub is_value : List ℕ → Bool
is_value k = is_same_folded (codes "value") k

-- the value of the one member, where it is named `value`
abbrev pub value_in : Pairs → Option Json
value_in no_pairs = None
value_in (pair k j no_pairs) = if is_value k then Some j else None
value_in (pair k j (pair l i ms)) = None

-- the value of an object that has one member, named `value`
abbrev pub entry_value : Json → Option Json
entry_value (object ms) = value_in ms
entry_value _ = None

-- the value that a member gives, where its name is not among these
abbrev pub new_entry : List (List ℕ) → List ℕ → Json → Option Json
new_entry names k j = if is_named names k then None else entry_value j

-- an entry before the others, where all are there
abbrev pub entry_before : Entry → Result (List Entry) (List ℕ) → Result (List Entry) (List ℕ)
entry_before e (Ok es) = Ok (e ∷ es)
entry_before e (Err path) = Err path

-- what a member and then the others give, or the path of the member
abbrev pub entry_by : List ℕ → Option Json → Result (List Entry) (List ℕ) → Result (List Entry) (List ℕ)
entry_by k None rest = Err (step (token k))
entry_by k (Some j) rest = entry_before (k, j) rest

-- what the members give after members of these names; else the path of the first that gives nothing
abbrev pub given_in : List (List ℕ) → Pairs → Result (List Entry) (List ℕ)
given_in names no_pairs = Ok []
given_in names (pair k j ms) = entry_by k (new_entry names k j) (given_in (names ++ k ∷ []) ms)

-- what the value gives, or the path at which it has another form
abbrev pub given_of : Json → Result (List Entry) (List ℕ)
given_of (object ms) = given_in [] ms
given_of _ = Err []

-- the answer is what is given, or refuses it with the path, or memory was refused
abbrev pub IsAnswerTo : Result (List Entry) (List ℕ) → Result (List GivenValue) TemplateFault → Type 0
IsAnswerTo given (Ok g) = given ≡ Ok (map given_view g)
IsAnswerTo given (Err (WrongForm path)) = given ≡ Err path
IsAnswerTo given (Err OutOfMemory) = Unit {0}
IsAnswerTo given (Err _) = ⊥
