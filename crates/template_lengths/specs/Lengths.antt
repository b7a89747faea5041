-- How many bytes the compact JSON of a template has.
use Rattle.std.specs.Prelude.{◌≡◌, ◌+◌, ◌-◌, ◌^◌, ◌≤◌, min, ℕ, List, [], ◌∷◌, length, Option, Some, None}
use Rattle.serde_json.specs.Written.{compact_text}
use Rattle.arm_value.specs.Json.{Json, nesting}
use Rattle.arm_value.specs.Reading.{data_of}
use Rattle.template_tree.specs.Tree.{TemplateTree}
use Rattle.template_tree.specs.View.{template_tree}
use Rattle.template_tree.specs.declared.resource.Template.{Template}
use Rattle.template_written.specs.Keeps.{Keeps}
use Rattle.template_written.specs.Written.{written}
use Rattle.plan_cells.specs.Resources.{Nested, nested_at, nested_numbers}

-- the compact JSON of a value has so many bytes
abbrev pub value_bytes : Json → ℕ
value_bytes j = length (compact_text (data_of j))

-- that of the value that is written of a template
abbrev pub template_bytes : TemplateTree → ℕ
template_bytes t = value_bytes (written t)

abbrev pub IsLengthOf : Template → ℕ → Type 0
IsLengthOf t n = n ≡ template_bytes (template_tree t)

-- the template has so many bytes; what nests above 120 is not written
pub record IsLength (t : TemplateTree) (n : ℕ) : Type 0 where
  pub least : n ≤ template_bytes t
  pub exact : nesting (written t) ≤ 120 → n ≡ template_bytes t

-- ---- templates that may be there

abbrev pub option_bytes : Option Template → ℕ
option_bytes None = 0
option_bytes (Some t) = template_bytes (template_tree t)

-- those of a list together
abbrev pub total_bytes : List (Option Template) → ℕ
total_bytes [] = 0
total_bytes (o ∷ os) = option_bytes o + total_bytes os

abbrev pub OptionKeeps : Option Template → Type 0
OptionKeeps None = Unit {0}
OptionKeeps (Some t) = Keeps (template_tree t)

-- the number with the bytes of the template, where it is there
abbrev pub IsAdded : ℕ → Option Template → ℕ → Type 0
IsAdded bytes None n = n ≡ bytes
IsAdded bytes (Some t) n = (m : ℕ) × (IsLength (template_tree t) m × (n ≡ min (bytes + m) (2 ^ 64 - 1)))

-- ---- nested deployments

-- the bytes of the template of a nested deployment, where it is there
abbrev pub nested_bytes : Option Nested → ℕ
nested_bytes None = 0
nested_bytes (Some x) = template_bytes x.template

-- those of the nested deployments of these numbers, together
abbrev pub all_bytes : TemplateTree → List ℕ → ℕ
all_bytes t [] = 0
all_bytes t (m ∷ ms) = nested_bytes (nested_at t m) + all_bytes t ms

-- a template has at least as many bytes as those of its nested deployments together
abbrev pub HoldNested : Type 0
HoldNested = (t : TemplateTree) → all_bytes t (nested_numbers t) ≤ template_bytes t
