use Rattle.std.proofs.Common.{◌≡◌, drop, map, max}
use Rattle.arm_value.specs.Json.{items_nesting, RowIsOrderly, row}
use Rattle.arm_value.specs.View.{json}
use Rattle.arm_value.proofs.value.deepest_item.Given as goal

abbrev pub invariant-loop-value : goal.invariant-loop-value
invariant-loop-value l = record {
  depth : items_nesting (map json l.values) ≡ max l.depth (items_nesting (map json (drop l.value-index l.values)));
  rules : RowIsOrderly (row (map json (drop l.value-index l.values))) → RowIsOrderly (row (map json l.values));
}
