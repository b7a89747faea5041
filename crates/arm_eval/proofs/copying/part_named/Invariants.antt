use Rattle.std.proofs.Common.{◌≡◌, drop, map, chars, option_map}
use Rattle.arm_value.specs.Json.{pairs}
use Rattle.arm_value.specs.View.{member}
use Rattle.arm_eval.specs.Trees.{part_named, parts}
use Rattle.arm_eval.specs.Words.{tree_in}
use Rattle.arm_eval.proofs.copying.part_named.Given as goal

abbrev pub invariant-loop-field : goal.invariant-loop-field
invariant-loop-field l =
    option_map tree_in (part_named (chars l.name) (parts (pairs (map member (drop l.field-index l.fields)))))
    ≡ option_map tree_in (part_named (chars l.name) (parts (pairs (map member l.fields))))
