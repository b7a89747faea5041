use Rattle.std.proofs.Common.{◌≡◌, ◌++◌, drop, take, map, []}
use Rattle.arm_value.specs.View.{json}
use Rattle.function_lists.specs.Index.{IsIndexOf}
use Rattle.function_lists.specs.Items.{distinct}
use Rattle.function_lists.proofs.items.distinct.Given as goal

-- what was kept of the values so far with what is kept of those that are left; the texts are those of the values so far
abbrev pub invariant-loop-value : goal.invariant-loop-value
invariant-loop-value l = record {
  all : map json l.all.items ++ distinct (map json (take l.value-index l.values))
      (map json (drop l.value-index l.values)) ≡ distinct [] (map json l.values);
  before : IsIndexOf l.before (map json (take l.value-index l.values));
}
