use Rattle.std.proofs.Common.{◌≡◌, ◌≤◌, ◌+◌, length, map, ap, sym, subst, ◌∙◌, arith}
use Rattle.std.proofs.lemmas.List.{length-map}
use Rattle.foundation.proofs.Lists.{length_more}
use Rattle.bicep_declared.specs.View.{declared_tree}
use Rattle.bicep_mentions.specs.Entries.{has_entry}
use Rattle.file_tables.proofs.MarkLemmas.{AreMarks, one_more, all_marked}
use Rattle.file_tables.proofs.order.marks_of.Goals as goal

pub loop-number-preserved : goal.loop-number-preserved
loop-number-preserved c =
    let all = c.loop-number.marks.items in
    let count = c.loop-number.invariant.1 in
    let number : c.loop-number.number ≡ length all + 0 = omega (arith, count) in (
      (λ kinds known.
          let p = has_entry kinds (map declared_tree c.args.declarations.now) in
          subst (AreMarks p 0) (sym c.in_ok-push.ensures.items)
          (one_more p 0 all c.has_entry.result (c.loop-number.invariant.0 kinds known)
          (c.has_entry.ensures kinds known ∙ ap p number))),
      ap length c.in_ok-push.ensures.items ∙ length_more all c.has_entry.result ∙ ap (λ n. n + 1) count,
    )

pub returns : goal.returns
returns c = λ kinds known.
    let ds = map declared_tree c.args.declarations.now in
    let count = c.loop-number.invariant.1 in
    let done = c.loop-number-test.false in
    let size = length-map c.args.declarations.now declared_tree in
    let all : length ds ≤ length c.loop-number.marks.items = omega (arith, count, done, size) in
    all_marked kinds ds c.loop-number.marks.items (c.loop-number.invariant.0 kinds known) all
