use Rattle.std.proofs.Common.{◌≡◌, ◌≤◌, ◌+◌, ◌∷◌, [], ◌∙◌, ap, sym, drop, ℕ, List, length, arith, refl, map, rules}
use Rattle.arm_value.specs.View.{json}
use Rattle.function_texts.specs.Cuts.{pieces}
use Rattle.function_texts.proofs.PlaceLemmas.{whole_rest}
use Rattle.function_texts.proofs.SplitLemmas.{spelled, pieces_more, pieces_end, on_ok}
use Rattle.function_texts.proofs.MarkLemmas.{CutThere, cut_there, no_cut_there}
use Rattle.function_texts.proofs.splits.put_pieces.Goals as goal

pub slice_bounds-put_piece-start : goal.slice_bounds-put_piece-start
slice_bounds-put_piece-start c =
    let ds = spelled c.args.delimiters.now in
    let text = c.args.characters.now in
    let mark = c.in-Some.mark in
    let cut : CutThere ds text c.cuts.start mark.place mark.length =
    cut_there ds text c.in_ok-marks.marks.items c.as_slice.result.now c.cuts.start mark.place mark.length
    c.requires c.in_ok-marks.ensures c.as_slice.ensures.value (c.in-Some.ensures.some mark refl) in
    let later : c.cuts.start ≤ mark.place = cut.later in
    search rules

pub slice_bounds-put_piece-count : goal.slice_bounds-put_piece-count
slice_bounds-put_piece-count c =
    let ds = spelled c.args.delimiters.now in
    let text = c.args.characters.now in
    let mark = c.in-Some.mark in
    let cut : CutThere ds text c.cuts.start mark.place mark.length =
    cut_there ds text c.in_ok-marks.marks.items c.as_slice.result.now c.cuts.start mark.place mark.length
    c.requires c.in_ok-marks.ensures c.as_slice.ensures.value (c.in-Some.ensures.some mark refl) in
    let later : c.cuts.start ≤ mark.place = cut.later in
    search rules

pub slice_bounds-put_piece-end : goal.slice_bounds-put_piece-end
slice_bounds-put_piece-end c =
    let ds = spelled c.args.delimiters.now in
    let text = c.args.characters.now in
    let mark = c.in-Some.mark in
    let cut : CutThere ds text c.cuts.start mark.place mark.length =
    cut_there ds text c.in_ok-marks.marks.items c.as_slice.result.now c.cuts.start mark.place mark.length
    c.requires c.in_ok-marks.ensures c.as_slice.ensures.value (c.in-Some.ensures.some mark refl) in
    let later : c.cuts.start ≤ mark.place = cut.later in
    let within : mark.place ≤ length text = omega (arith, cut.fits) in
    search rules

pub overflow_add-start : goal.overflow_add-start
overflow_add-start c =
    let ds = spelled c.args.delimiters.now in
    let text = c.args.characters.now in
    let mark = c.in-Some.mark in
    let cut : CutThere ds text c.cuts.start mark.place mark.length =
    cut_there ds text c.in_ok-marks.marks.items c.as_slice.result.now c.cuts.start mark.place mark.length
    c.requires c.in_ok-marks.ensures c.as_slice.ensures.value (c.in-Some.ensures.some mark refl) in
    let fits : mark.place + mark.length ≤ length text = cut.fits in
    search rules

pub cuts-smaller : goal.cuts-smaller
cuts-smaller c =
    let ds = spelled c.args.delimiters.now in
    let text = c.args.characters.now in
    let mark = c.in-Some.mark in
    let cut : CutThere ds text c.cuts.start mark.place mark.length =
    cut_there ds text c.in_ok-marks.marks.items c.as_slice.result.now c.cuts.start mark.place mark.length
    c.requires c.in_ok-marks.ensures c.as_slice.ensures.value (c.in-Some.ensures.some mark refl) in
    omega (arith, cut.later, cut.some, cut.fits)

pub cuts-preserved : goal.cuts-preserved
cuts-preserved c =
    let ds = spelled c.args.delimiters.now in
    let text = c.args.characters.now in
    let mark = c.in-Some.mark in
    let cut : CutThere ds text c.cuts.start mark.place mark.length =
    cut_there ds text c.in_ok-marks.marks.items c.as_slice.result.now c.cuts.start mark.place mark.length
    c.requires c.in_ok-marks.ensures c.as_slice.ensures.value (c.in-Some.ensures.some mark refl) in
    record {
      all = pieces_more (map json c.cuts.all.items) (map json c.put_piece.new.all.items) _ _ _ _
          c.in_ok-put_piece.ensures cut.is c.cuts.invariant.all;
      within = cut.fits;
    }

pub returns : goal.returns
returns c =
    let ds = spelled c.args.delimiters.now in
    let text = c.args.characters.now in
    let none : pieces ds (drop c.cuts.start text) ≡ drop c.cuts.start text ∷ [] =
    no_cut_there ds text c.in_ok-marks.marks.items c.as_slice.result.now c.cuts.start
    c.requires c.in_ok-marks.ensures c.as_slice.ensures.value (c.in_default.ensures.none refl) in
    on_ok c.put_piece-2.result _ _
    (λ put. pieces_end (map json c.cuts.all.items) (map json c.put_piece-2.new.all.items) _ _ _ put
    (none ∙ ap (λ (r : List ℕ). r ∷ []) (sym (whole_rest text c.cuts.start))) c.cuts.invariant.all)
    c.put_piece-2.ensures
