use Rattle.std.proofs.Common.{◌≡◌, ◌≤◌, ◌+◌, length, ap, sym, subst, ◌∙◌, arith}
use Rattle.foundation.proofs.Lists.{length_more}
use Rattle.file_tables.specs.Orders as spec
use Rattle.file_tables.proofs.MarkLemmas.{AreMarks, one_more, all_joined}
use Rattle.file_tables.proofs.order.joined.Goals as goal

pub loop-number-preserved : goal.loop-number-preserved
loop-number-preserved c =
    let p = spec.mark_at c.args.has_entry.now c.args.batches.now in
    let all = c.loop-number.marks.items in
    let count = c.loop-number.invariant.1 in
    let number : c.loop-number.number ≡ length all + 0 = omega (arith, count) in (
      subst (AreMarks p 0) (sym c.in_ok-push.ensures.items)
          (one_more p 0 all c.mark_at.result c.loop-number.invariant.0 (c.mark_at.ensures ∙ ap p number)),
      ap length c.in_ok-push.ensures.items ∙ length_more all c.mark_at.result ∙ ap (λ n. n + 1) count,
    )

pub returns : goal.returns
returns c =
    let bs = c.args.has_entry.now in
    let xs = c.args.batches.now in
    let ms = c.loop-number.marks.items in
    let count = c.loop-number.invariant.1 in
    let done = c.loop-number-test.false in
    let first = c.greater-number-end.ensures.first in
    let second = c.greater-number-end.ensures.second in
    let p : length bs ≤ length ms = omega (arith, count, done, first) in
    let q : length xs ≤ length ms = omega (arith, count, done, second) in
    all_joined bs xs ms c.loop-number.invariant.0 p q
