use Rattle.std.proofs.Common.{◌≡◌, ◌+◌, ◌*◌, ◌++◌, drop, map}
use Rattle.arm_value.specs.Json.{nesting, items_nesting, members_nesting, row, pairs, IsInOrder}
use Rattle.arm_value.specs.View.{json, member}
use Rattle.template_parameters.specs.Literal.{row_literal, pairs_literal}
use Rattle.template_parameters.proofs.literals.+literal.Given as goal
use Rattle.arm_value.proofs.GatheredLemmas.{with_row, with_pairs}

abbrev pub decreases-fields_literal : goal.decreases-fields_literal
decreases-fields_literal l = 2 * members_nesting l.fields.now + 1

abbrev pub decreases-items_literal : goal.decreases-items_literal
decreases-items_literal l = 2 * items_nesting l.items.now + 1

abbrev pub decreases-literal : goal.decreases-literal
decreases-literal l = 2 * nesting (json l.value.now)

abbrev pub invariant-fields_literal-loop-field : goal.invariant-fields_literal-loop-field
invariant-fields_literal-loop-field l = record {
  all : pairs_literal (pairs (map member l.field-items)) ≡ with_pairs l.found
      (pairs_literal (pairs (map member (drop l.field-index l.field-items))));
  ordered : IsInOrder (l.found ++ map member (drop l.field-index l.field-items));
}

abbrev pub invariant-items_literal-loop-item : goal.invariant-items_literal-loop-item
invariant-items_literal-loop-item l =
    row_literal (row (map json l.item-items)) ≡ with_row l.found
    (row_literal (row (map json (drop l.item-index l.item-items))))
