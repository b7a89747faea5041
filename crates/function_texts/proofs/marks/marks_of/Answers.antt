use Rattle.std.proofs.Common.{◌≡◌, ◌<◌, ℕ, List, ◌++◌, ◌+◌, length, take, drop, ap, sym, subst, arith, rules}
use Rattle.function_texts.specs.Search.{AreMarks, AreMarked}
use Rattle.function_texts.proofs.SplitLemmas.{spelled}
use Rattle.function_texts.proofs.MarkLemmas.{marks-none, marks_more, not_empty_at, lent}
use Rattle.function_texts.proofs.marks.marks_of.Goals as goal

pub loop-delimiter-init : goal.loop-delimiter-init
loop-delimiter-init c = marks-none c.args.text.now c.in_ok-marks.marks.items
    (c.in_ok-marks.ensures.items_if_clones_equal (search rules))

pub mark_part-requires-clause-some : goal.mark_part-requires-clause-some
mark_part-requires-clause-some c =
    let some : 0 < length c.delimiter-item.result.items =
    not_empty_at c.args.delimiters.now c.loop-delimiter.delimiter-index c.delimiter-item.result c.requires
    c.loop-delimiter-test.true c.delimiter-item.is in
    omega (arith, ap (λ (xs : List ℕ). length xs) c.as_slice.ensures.value)

pub loop-delimiter-preserved : goal.loop-delimiter-preserved
loop-delimiter-preserved c =
    let delimiter = c.delimiter-item.result in
    let old = c.loop-delimiter.marks.items in
    let new = c.mark_part.new.marks in
    let marked : AreMarked delimiter.items c.args.text.now old new =
    rw (sym c.as_slice.ensures.value, sym c.deref_mut.ensures.value) c.in_ok-mark_part.ensures.marked in
    let back : take c.loop-delimiter.marks.len (new ++ drop (length new) old) ≡ new =
    lent new old c.loop-delimiter.marks.len marked.count c.loop-delimiter.marks.ok.0 in
    subst (AreMarks (spelled (take (c.loop-delimiter.delimiter-index + 1) c.args.delimiters.now)) c.args.text.now)
    (sym back)
    (marks_more c.args.delimiters.now c.loop-delimiter.delimiter-index delimiter c.args.text.now old new
    c.loop-delimiter-test.true c.delimiter-item.is c.loop-delimiter.invariant marked)
