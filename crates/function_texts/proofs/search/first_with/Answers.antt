use Rattle.std.proofs.Common.{length, arith}
use Rattle.std.proofs.lemmas.List.{get_or_read}
use Rattle.std.proofs.lemmas.Bool.Decides.{nat_tests}
use Rattle.std.specs.Prelude.{◌+◌}
use Rattle.function_texts.specs.Search.{IsLongest}
use Rattle.function_texts.proofs.SearchLemmas.{longest_more, nowhere_more}
use Rattle.function_texts.proofs.PartLemmas.{first-empty, first_found, first_missed}
use Rattle.function_texts.proofs.search.first_with.Goals as goal

pub returns-then-is_empty : goal.returns-then-is_empty
returns-then-is_empty c = first-empty c.args.part.now c.args.text.now (grind (arith, nat_tests))

pub returns-then-length-part : goal.returns-then-length-part
returns-then-length-part c =
    let part = c.args.part.now in
    let text = c.args.text.now in
    first_found part text c.loop-i.i c.next_length-length.result c.loop-i.invariant.not_begun c.loop-i-test.true
    (longest_more part text c.loop-i.i c.loop-i.length c.index-text-i.result c.next_length-length.result
    c.loop-i.invariant.longest c.next_length-length.ensures
    (get_or_read text c.loop-i.i c.index-text-i.result c.loop-i-test.true c.index-text-i.is 0))
    c.if-length-part.true

pub loop-i-preserved : goal.loop-i-preserved
loop-i-preserved c =
    let part = c.args.part.now in
    let text = c.args.text.now in
    let longest : IsLongest part text (c.loop-i.i + 1) (length part) c.next_length-length.result =
    longest_more part text c.loop-i.i c.loop-i.length c.index-text-i.result c.next_length-length.result
    c.loop-i.invariant.longest c.next_length-length.ensures
    (get_or_read text c.loop-i.i c.index-text-i.result c.loop-i-test.true c.index-text-i.is 0) in
    record {
      longest = longest;
      some = c.loop-i.invariant.some;
      not_begun = nowhere_more part text c.loop-i.i c.next_length-length.result c.loop-i.invariant.not_begun longest
          (omega (arith, longest.within, c.if-length-part.false));
    }

pub returns : goal.returns
returns c = first_missed c.args.part.now c.args.text.now c.loop-i.i c.loop-i.invariant.not_begun c.loop-i-test.false
