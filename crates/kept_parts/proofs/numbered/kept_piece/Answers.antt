use Rattle.std.proofs.Common.{ap, sym, ◌∙◌}
use Rattle.kept_parts.specs.Pieces.{piece_of}
use Rattle.kept_expressions.specs.Limits.{is_within}
use Rattle.kept_parts.proofs.numbered.kept_piece.Goals as goal

pub returns-then-not-is_within : goal.returns-then-not-is_within
returns-then-not-is_within c = λ a h.
    c.beyond_holes.ensures (piece_of c.args.piece a) (c.in_ok-holed.ensures a h.grows)
    (sym (ap is_within c.least_extent.ensures) ∙ sym c.is_within.ensures ∙ c.if-not-is_within.true)

pub returns : goal.returns
returns c = λ a h.
    c.keep_holes.ensures (piece_of c.args.piece a) (c.in_ok-holed.ensures a h.grows)
    (sym (ap is_within c.least_extent.ensures) ∙ sym c.is_within.ensures ∙ c.if-not-is_within.false)
    (c.piece_of.ensures a (c.copied.ensures a h))
