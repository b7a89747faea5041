-- The functions of the evaluator, by what their arguments give (Microsoft Learn, "Template
-- functions").
use Rattle.std.specs.Prelude.{ℕ, Bool, true, false, List, [], ◌∷◌, Option, Some, None, codes}
use Rattle.std.specs.Prelude.{nat_le, length, option_map, if◌then◌else◌}
use Rattle.arm_value.specs.Json.{Json, null, bool, text}
use Rattle.arm_value.specs.Look.{is_same_folded}
use Rattle.arm_functions.specs.Kinds.{truth_of}
use Rattle.arm_env.specs.Reading.{pure, none, continued}
use Rattle.arm_env.specs.Look.{Looking}
use Rattle.arm_env.specs.declared.function.Lazy.{Lazy}
use Rattle.arm_env.specs.declared.function.Lazy.TheVariants as lazy
use Rattle.arm_env.specs.declared.function.Asked.{Asked}
use Rattle.arm_env.specs.declared.function.Asked.TheVariants.{Properties, Whole}

-- `if`: the argument that the condition chooses
abbrev pub chosen : Option Bool → Looking Json → Looking Json → Looking Json
chosen (Some true) a b = a
chosen (Some false) a b = b
chosen None a b = none

abbrev pub if_row : List (Looking Json) → Looking Json
if_row (c ∷ a ∷ b ∷ []) = continued c (λ v. chosen (truth_of v) a b)
if_row _ = none

-- `and`: false where one is false, true where all are true
abbrev pub unless_false : Option Bool → Looking Json → Looking Json
unless_false (Some true) rest = rest
unless_false (Some false) rest = pure (bool false)
unless_false None rest = none

abbrev pub all_true : List (Looking Json) → Looking Json
all_true [] = pure (bool true)
all_true (o ∷ os) = continued o (λ v. unless_false (truth_of v) (all_true os))

abbrev pub and_row : List (Looking Json) → Looking Json
and_row os = if nat_le 2 (length os) then all_true os else none

-- `or`: true where one is true, false where all are false
abbrev pub unless_true : Option Bool → Looking Json → Looking Json
unless_true (Some true) rest = pure (bool true)
unless_true (Some false) rest = rest
unless_true None rest = none

abbrev pub one_true : List (Looking Json) → Looking Json
one_true [] = pure (bool false)
one_true (o ∷ os) = continued o (λ v. unless_true (truth_of v) (one_true os))

abbrev pub or_row : List (Looking Json) → Looking Json
or_row os = if nat_le 2 (length os) then one_true os else none

abbrev pub is_null : Json → Bool
is_null null = true
is_null _ = false

-- `coalesce`: the first that is not null, and null where all are
abbrev pub first_there : List (Looking Json) → Looking Json
first_there [] = pure null
first_there (o ∷ os) = continued o (λ v. if is_null v then first_there os else pure v)

abbrev pub coalesce_row : List (Looking Json) → Looking Json
coalesce_row os = if nat_le 1 (length os) then first_there os else none

abbrev pub lazy_row : Lazy → List (Looking Json) → Looking Json
lazy_row lazy.If os = if_row os
lazy_row lazy.And os = and_row os
lazy_row lazy.Or os = or_row os
lazy_row lazy.Coalesce os = coalesce_row os

-- the text of the only argument
abbrev pub only_text : List Json → Option (List ℕ)
only_text (text t ∷ []) = Some t
only_text _ = None

-- what `reference` asks of a state by its third argument
abbrev pub asked_by : List ℕ → Option Asked
asked_by full = if is_same_folded (codes "Full") full then Some Whole else None

-- `reference`: the text that names a resource, and what is asked of its state
abbrev pub asked : List Json → Option (List ℕ × Asked)
asked (text t ∷ []) = Some (t, Properties)
asked (text t ∷ text api ∷ []) = Some (t, Properties)
asked (text t ∷ text api ∷ text full ∷ []) = option_map (λ a. (t, a)) (asked_by full)
asked _ = None
