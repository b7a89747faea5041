use Rattle.std.proofs.Common.{◌≡◌, ◌++◌, map, drop}
use Rattle.arm_expr.specs.View.{text_of}
use Rattle.bicep_resolved.specs.View.{piece_of, pieces}
use Rattle.bicep_emission.specs.Texts.{format_text}
use Rattle.emitted_parts.proofs.TextLemmas.{after_first}
use Rattle.emitted_parts.proofs.texts.format_text.Given as goal

-- the holes so far, and what is left
abbrev pub invariant-loop-piece : goal.invariant-loop-piece
invariant-loop-piece l =
    (l.number ≡ l.piece-index)
    × (text_of l.out ++ after_first l.number (pieces (map piece_of (drop l.piece-index l.pieces)))
    ≡ format_text 0 l.first (pieces (map piece_of l.pieces)))
