use Rattle.std.proofs.Common.{◌≡◌, ◌+◌, suc, ◌∷◌, [], ◌++◌, ap, sym, subst, ◌∙◌}
use Rattle.std.proofs.Common.{arith}
use Rattle.std.specs.Prelude.{IfOk, Ok}
use Rattle.kept_expressions.specs.Kept.{AreKeptHoles}
use Rattle.kept_parts.specs.Pieces.{piece_of, segments_at}
use Rattle.kept_parts.specs.declared.pieces.Piece.TheVariants as piece
use Rattle.kept_parts.proofs.ListLemmas.{kept_more}
use Rattle.kept_parts.proofs.PieceLemmas.{segments_are, one_segment_more}
use Rattle.kept_parts.proofs.numbered.split_parts.Goals as goal

pub loop-number-preserved : goal.loop-number-preserved
loop-number-preserved c = λ a h.
    let n = c.loop-number.number in
    let next : n + 1 ≡ suc n = omega arith in
    let here : 0 + n ≡ n = omega arith in
    subst (λ us. AreKeptHoles us c.in-Ok.more.items)
    (sym (ap (segments_at a 0) next ∙ one_segment_more a 0 n
    ∙ ap (λ k. segments_at a 0 n ++ piece_of (piece.Segment k) a ∷ []) here))
    (kept_more (segments_at a 0 n) (piece_of (piece.Segment n) a) (Ok c.loop-number.all) c.kept_piece.result
    (Ok c.in-Ok.more) c.in-Ok.ensures (c.loop-number.invariant a h) (c.kept_piece.ensures a h))

pub returns : goal.returns
returns c = λ a h.
    let n = c.loop-number.number in
    let ended = c.loop-number-test.false in
    let at_end = c.loop-number.auto.number-end in
    let last : n ≡ c.args.last = omega (arith, ended, at_end) in
    let here : 0 + c.args.last ≡ c.args.last = omega arith in
    subst (λ us. IfOk c.with-2.result (λ v. AreKeptHoles us v.items))
    (ap (λ k. segments_at a 0 k ++ piece_of (piece.Rest c.args.last) a ∷ []) last
    ∙ sym (segments_are a 0 c.args.last
    ∙ ap (λ k. segments_at a 0 c.args.last ++ piece_of (piece.Rest k) a ∷ []) here))
    (kept_more (segments_at a 0 n) (piece_of (piece.Rest c.args.last) a) (Ok c.loop-number.all) c.kept_piece-2.result
    c.with-2.result c.with-2.ensures (c.loop-number.invariant a h) (c.kept_piece-2.ensures a h))
