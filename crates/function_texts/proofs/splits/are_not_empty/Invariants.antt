use Rattle.std.proofs.Common.{◌≡◌, drop, map, length}
use Rattle.std.specs.Prelude.{not, ◌==◌}
use Rattle.std.specs.List.{list_all}
use Rattle.function_texts.proofs.splits.are_not_empty.Given as goal

abbrev pub invariant-loop-text : goal.invariant-loop-text
invariant-loop-text l = list_all (λ d. not (length d == 0)) (map (λ d. d.items) (drop l.text-index l.delimiters))
    ≡ list_all (λ d. not (length d == 0)) (map (λ d. d.items) l.delimiters)
