-- How deep literal values nest, and what loops that make them have come to.
use Rattle.std.proofs.Common.{◌≡◌, Option, Some}
use Rattle.std.proofs.Common.{refl, sym, ◌∙◌, subst}
use Rattle.arm_value.specs.Json.{Json, null, bool, int, text, array, object, Row, no_items, item, Pairs, no_pairs}
use Rattle.arm_value.specs.Json.{pair, nesting, row_nesting, pairs_nesting}
use Rattle.template_parameters.specs.Literal.{literal_text, literal, row_literal}
use Rattle.template_parameters.specs.Literal.{pairs_literal}
use Rattle.arm_value.proofs.GatheredLemmas.{ValueNests, RowNests, PairsNest, text_nests, array_nests, object_nests}
use Rattle.arm_value.proofs.GatheredLemmas.{item_nests, pair_nests, unless_nests}
use Rattle.arm_expr.specs.Brackets.{is_copy}

-- ---- nesting

mutual
  pub nesting-literal : (j : Json) → ValueNests (nesting j) (literal j)
  nesting-literal null = refl
  nesting-literal (bool b) = refl
  nesting-literal (int z) = refl
  nesting-literal (text s) = text_nests (literal_text s)
  nesting-literal (array js) = array_nests (row_nesting js) (row_literal js) (nesting-row_literal js)
  nesting-literal (object ms) = object_nests (pairs_nesting ms) (pairs_literal ms) (nesting-pairs_literal ms)

  nesting-row_literal : (js : Row) → RowNests (row_nesting js) (row_literal js)
  nesting-row_literal no_items = refl
  nesting-row_literal (item j js) =
      item_nests (nesting j) (row_nesting js) (literal j) (row_literal js) (nesting-literal j) (nesting-row_literal js)

  nesting-pairs_literal : (ms : Pairs) → PairsNest (pairs_nesting ms) (pairs_literal ms)
  nesting-pairs_literal no_pairs = refl
  nesting-pairs_literal (pair k j ms) =
      unless_nests (is_copy k) _ _
      (pair_nests (nesting j) (pairs_nesting ms) k (literal j) (pairs_literal ms) (nesting-literal j)
      (nesting-pairs_literal ms))

pub literal_nests : (j k : Json) (o : Option Json) → o ≡ literal j → o ≡ Some k → nesting k ≡ nesting j
literal_nests j k o e f = subst (ValueNests (nesting j)) (sym e ∙ f) (nesting-literal j)

-- ---- lists of items, and what loops have come to

-- ---- order of what is made
