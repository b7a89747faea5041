-- The value of a tree that reads nothing.
use Rattle.std.specs.Prelude.{ℕ, List, Option, Some, None, option_map, if◌then◌else◌}
use Rattle.arm_value.specs.Json.{Json, null, bool, int, text, array, object, Row, no_items, item, Pairs, no_pairs, pair}
use Rattle.arm_expr.specs.Brackets.{meaning, plain_text, is_copy}
use Rattle.arm_value.specs.Gathered.{item_before, pair_before}

-- the text that a text of a template is, and none where it is an expression
abbrev pub literal_text : List ℕ → Option (List ℕ)
literal_text s = plain_text (meaning s)

-- the value that a tree has without reading anything; none where it has an expression or a loop in it
abbrev mutual
  pub literal : Json → Option Json
  literal null = Some null
  literal (bool b) = Some (bool b)
  literal (int z) = Some (int z)
  literal (text s) = option_map (λ t. text t) (literal_text s)
  literal (array js) = option_map (λ r. array r) (row_literal js)
  literal (object ms) = option_map (λ ps. object ps) (pairs_literal ms)

  pub row_literal : Row → Option Row
  row_literal no_items = Some no_items
  row_literal (item j js) = item_before (literal j) (row_literal js)

  pub pairs_literal : Pairs → Option Pairs
  pairs_literal no_pairs = Some no_pairs
  pairs_literal (pair k j ms) = if is_copy k then None else pair_before k (literal j) (pairs_literal ms)
