use Rattle.std.proofs.Common.{◌≡◌, ◌≤◌, ◌-◌, ◌++◌, drop, map, length}
use Rattle.arm_value.specs.Json.{text}
use Rattle.arm_value.specs.View.{json}
use Rattle.function_texts.specs.Cuts.{pieces}
use Rattle.function_texts.proofs.SplitLemmas.{spelled}
use Rattle.function_texts.proofs.splits.put_pieces.Given as goal

-- the pieces so far, and those of what is left
abbrev pub invariant-cuts : goal.invariant-cuts
invariant-cuts l = record {
  all :
      map json l.all.items ++ map text (pieces (spelled l.delimiters) (drop l.start l.characters))
      ≡ map json l.fn.all.items ++ map text (pieces (spelled l.delimiters) l.characters);
  within : l.start ≤ length l.characters;
}

abbrev pub decreases-cuts : goal.decreases-cuts
decreases-cuts l = length l.characters - l.start
