-- Which parameters and variables a template has, before anything is known of its form.
use Rattle.std.specs.Prelude.{ℕ, List, [], ◌∷◌, ◌++◌, Option, Some, codes, if◌then◌else◌}
use Rattle.arm_value.specs.Json.{Json, array, object, Row, no_items, item, Pairs, no_pairs, pair, pair_keys}
use Rattle.arm_value.specs.Look.{look, first_by}
use Rattle.template_texts.specs.declared.sight.Sight.{Sight}
use Rattle.template_values.specs.Values.{loop_name, names_with}
use Rattle.arm_expr.specs.Brackets.{is_copy}

-- the names of the members
abbrev pub member_names : Option Json → List (List ℕ)
member_names (Some (object ms)) = pair_keys ms
member_names _ = []

-- the names, and those of the members that are not `copy`
abbrev pub plain_names : List (List ℕ) → Pairs → List (List ℕ)
plain_names names no_pairs = names
plain_names names (pair k j ms) =
    if is_copy k then plain_names names ms else plain_names (names ++ k ∷ []) ms

-- the names, and those that loops give
abbrev pub row_names : List (List ℕ) → Row → List (List ℕ)
row_names names no_items = names
row_names names (item j js) = row_names (names_with names (loop_name j)) js

abbrev pub loop_names : List (List ℕ) → Option Json → List (List ℕ)
loop_names names (Some (array js)) = row_names names js
loop_names names _ = names

-- the names of the variables: those of the members but for `copy`, and those that its loops give
abbrev pub variable_names : Option Json → List (List ℕ)
variable_names (Some (object ms)) = loop_names (plain_names [] ms) (first_by is_copy ms)
variable_names _ = []

-- what the expressions of a template see that sees its own names
abbrev pub sight_of : Json → Sight
sight_of j = record {
  parameters = member_names (look (codes "parameters") j);
  variables = variable_names (look (codes "variables") j);
}
