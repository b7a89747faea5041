-- Why a deployment has no plan: what a filled sheet says of its cells.
use Rattle.std.specs.Prelude.{◌≡◌, ◌⊎◌, ℕ, ◌<◌, pos, Bool, true, false, List, [], ◌∷◌, Some, option_and_then}
use Rattle.arm_value.specs.Json.{Json, int}
use Rattle.arm_ids.specs.declared.id.ResourceId.{ResourceId}
use Rattle.reading.specs.Knowledge.{value, waits, told}
use Rattle.template_parts.specs.declared.parameter.Parameter.{Parameter}
use Rattle.template_parameters.specs.Rule.{breach}
use Rattle.template_parameters.specs.declared.rule.Breach.{Breach}
use Rattle.deploy_cells.specs.Cells.{Position, Cell, parameter, variable, offered, output, count, included, name}
use Rattle.deploy_cells.specs.Guarded.{Reads}
use Rattle.plan_filling.specs.Scopes.{template_at}
use Rattle.plan_filling.specs.Sites.{parameter_named}
use Rattle.plan_filling.specs.Meaning.{Deployment, meaning, raw}
use Rattle.plan_filling.specs.Rows.{Row, Empty, status_of, table}
use Rattle.plan_filling.specs.Sound.{IsLate}
use Rattle.plan_tasks.specs.Answered.{is_asked}

-- a count, a condition or a name reads the state at a key, itself or through other cells
pub record IsNotStartKnown (d : Deployment) (rows : List Row) (c : Cell) (k : ResourceId) : Type 0 where
  pub is_asked : is_asked c ≡ true
  pub is_late : IsLate d (status_of rows) c k

-- whether a cell of the start must have a value: a parameter, a variable, a count, a condition, a name
abbrev pub is_needed : Cell → Bool
is_needed (parameter p x) = true
is_needed (variable p x) = true
is_needed (count p r) = true
is_needed (included p s) = true
is_needed (name p s) = true
is_needed _ = false

-- such a cell is known to have none; a name of which no key can be formed has none
pub record IsWithoutValue (d : Deployment) (rows : List Row) (c : Cell) : Type 0 where
  pub is_needed : is_needed c ≡ true
  pub is_empty : status_of rows c ≡ Some Empty

abbrev pub IsUnanswered : Deployment → List Row → Cell → Type 0
IsUnanswered d rows c = ((k : ResourceId) × IsNotStartKnown d rows c k) ⊎ IsWithoutValue d rows c

-- a cell has no value since the one that is read for it breaks its rule
pub record IsRead (d : Deployment) (rows : List Row) (c : Cell) (v : Json) : Type 0 where
  pub is_empty : status_of rows c ≡ Some Empty
  pub reading : Reads Json
  pub has : raw d c ≡ Some reading
  pub is_told : told (table (status_of rows)) reading ≡ value v

-- what is given for a parameter, or its default, breaks its rule
pub record IsBreach (d : Deployment) (rows : List Row) (p : Position) (x : List ℕ) (b : Breach) : Type 0 where
  pub declared : Parameter
  pub is_declared : option_and_then (parameter_named x) (template_at d.template p) ≡ Some declared
  pub given : Json
  pub is_read : IsRead d rows (parameter p x) given
  pub breaks : breach declared given ≡ Some b

-- a count is above 800
pub record IsCountBeyond (d : Deployment) (rows : List Row) (p : Position) (r n : ℕ) : Type 0 where
  pub is_read : IsRead d rows (count p r) (int (pos n))
  pub is_beyond : 800 < n

-- each cell waits for the next, and the last for the end
abbrev pub AreWaiting : Deployment → List Row → Cell → List Cell → Cell → Type 0
AreWaiting d rows c [] end = told (table (status_of rows)) (meaning d c) ≡ waits end
AreWaiting d rows c (e ∷ es) end =
    (told (table (status_of rows)) (meaning d c) ≡ waits e) × AreWaiting d rows e es end

-- whether it is a parameter, a variable or an output
abbrev pub is_titled : Cell → Bool
is_titled (parameter p x) = true
is_titled (variable p x) = true
is_titled (output p x) = true
is_titled (offered p x) = true
is_titled _ = false

abbrev pub AreTitled : List Cell → Type 0
AreTitled [] = Unit {0}
AreTitled (c ∷ cs) = (is_titled c ≡ true) × AreTitled cs

-- a circle of parameters, variables and outputs: each needs the next, and the last the first
pub record IsTitledCircle (d : Deployment) (rows : List Row) (c : Cell) (cs : List Cell) : Type 0 where
  pub are_titled : AreTitled (c ∷ cs)
  pub are_waiting : AreWaiting d rows c cs c
