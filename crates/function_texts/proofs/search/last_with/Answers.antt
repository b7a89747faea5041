use Rattle.std.proofs.Common.{length, arith}
use Rattle.std.proofs.lemmas.List.{get_or_read}
use Rattle.std.proofs.lemmas.Bool.Decides.{nat_tests}
use Rattle.std.specs.Prelude.{◌+◌}
use Rattle.function_texts.specs.Search.{IsLongest}
use Rattle.function_texts.proofs.SearchLemmas.{longest_more}
use Rattle.function_texts.proofs.PartLemmas.{last-empty, last_more}
use Rattle.function_texts.proofs.search.last_with.Goals as goal

pub returns-then-is_empty : goal.returns-then-is_empty
returns-then-is_empty c = last-empty c.args.part.now c.args.text.now (grind (arith, nat_tests))

pub loop-i-preserved : goal.loop-i-preserved
loop-i-preserved c =
    let part = c.args.part.now in
    let text = c.args.text.now in
    let longest : IsLongest part text (c.loop-i.i + 1) (length part) c.next_length-length.result =
    longest_more part text c.loop-i.i c.loop-i.length c.index-text-i.result c.next_length-length.result
    c.loop-i.invariant.longest c.next_length-length.ensures
    (get_or_read text c.loop-i.i c.index-text-i.result c.loop-i-test.true c.index-text-i.is 0) in
    record {
      longest = longest;
      last = last_more part text c.loop-i.i c.next_length-length.result c.loop-i.found c.here_or-found.result
          c.loop-i.invariant.last c.loop-i-test.true longest c.here_or-found.ensures;
    }
