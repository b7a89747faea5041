-- How many parameters, variables, outputs and resources a template has, and which number is beyond its limit (Microsoft
-- Learn, "Template limits").
use Rattle.std.specs.Prelude.{ℕ, suc, ◌+◌, min, nat_lt, Bool, Option, Some, None, codes}
use Rattle.std.specs.Prelude.{if◌then◌else◌}
use Rattle.arm_value.specs.Json.{Json, array, object, Row, no_items, item, Pairs, no_pairs, pair}
use Rattle.arm_value.specs.Look.{is_same_folded, look, look_in, first_by}
use Rattle.template_faults.specs.Header.{form_in}
use Rattle.template_parts.specs.declared.fault.TemplateFault.{TemplateFault}
use Rattle.template_parts.specs.declared.fault.TemplateFault.TheVariants.{Limit}
use Rattle.template_parts.specs.declared.limit.Which.{Which}
use Rattle.template_parts.specs.declared.limit.Which.TheVariants as which
use Rattle.template_parts.specs.declared.mode.Form.{Form}
use Rattle.template_parts.specs.declared.mode.Form.TheVariants.{One, Two}
use Rattle.template_values.specs.Order.{first_of}
use Rattle.arm_value.specs.Kinds.{row_length, is_true}
use Rattle.arm_expr.specs.Brackets.{is_copy}

-- the sum of two counts, which stays at the largest number of 64 bits
abbrev pub total : ℕ → ℕ → ℕ
total m n = min (m + n) 18446744073709551615

abbrev mutual
  -- the number of resources in an array, with their children
  pub array_count : Json → ℕ
  array_count (array js) = row_count 0 js
  array_count _ = 0

  -- the same, added to n
  pub row_count : ℕ → Row → ℕ
  row_count n no_items = n
  row_count n (item j js) = row_count (total n (tree_count j)) js

  -- a resource and its children
  pub tree_count : Json → ℕ
  tree_count (object ms) = total 1 (children_count ms)
  tree_count _ = 1

  pub children_count : Pairs → ℕ
  children_count no_pairs = 0
  children_count (pair k j ms) = if is_same_folded (codes "resources") k then array_count j else children_count ms

abbrev pub exists : Json → Bool
exists j = is_true (look (codes "existing") j)

-- the number of resources by symbolic names, but for those that exist already, added to n
abbrev pub pairs_count : ℕ → Pairs → ℕ
pairs_count n no_pairs = n
pairs_count n (pair k j ms) = if exists j then pairs_count n ms else pairs_count (total n 1) ms

abbrev pub symbols_count : Json → ℕ
symbols_count (object ms) = pairs_count 0 ms
symbols_count _ = 0

-- the number of resources of a template of the form
abbrev pub form_count : Form → Option Json → ℕ
form_count One (Some j) = array_count j
form_count Two (Some j) = symbols_count j
form_count One None = 0
form_count Two None = 0

abbrev pub resource_count : Pairs → ℕ
resource_count ms = form_count (form_in ms) (look_in (codes "resources") ms)

-- the number of members
abbrev pub pairs_length : Pairs → ℕ
pairs_length no_pairs = 0
pairs_length (pair k j ms) = suc (pairs_length ms)

abbrev pub member_count : Option Json → ℕ
member_count (Some (object ms)) = pairs_length ms
member_count _ = 0

-- the number of members that are not `copy`, added to n
abbrev pub plain_count : ℕ → Pairs → ℕ
plain_count n no_pairs = n
plain_count n (pair k j ms) = if is_copy k then plain_count n ms else plain_count (total n 1) ms

abbrev pub loop_count : Option Json → ℕ
loop_count (Some (array js)) = row_length js
loop_count _ = 0

-- the number of variables, with those that loops give
abbrev pub variable_count : Option Json → ℕ
variable_count (Some (object ms)) = total (plain_count 0 ms) (loop_count (first_by is_copy ms))
variable_count _ = 0

-- a fault where there are more than so many
abbrev pub beyond : Which → ℕ → ℕ → Option TemplateFault
beyond which most n = if nat_lt most n then Some (Limit which n) else None

abbrev pub variables_beyond : Pairs → Option TemplateFault
variables_beyond ms = beyond which.Variables 512 (variable_count (look_in (codes "variables") ms))

abbrev pub later_count_fault : Pairs → Option TemplateFault
later_count_fault ms = first_of (beyond which.Resources 800 (resource_count ms)) (variables_beyond ms)

-- the first number of a template that is beyond its limit
abbrev pub count_fault : Pairs → Option TemplateFault
count_fault ms =
    first_of (beyond which.Outputs 64 (member_count (look_in (codes "outputs") ms)))
    (first_of (beyond which.Parameters 256 (member_count (look_in (codes "parameters") ms))) (later_count_fault ms))
