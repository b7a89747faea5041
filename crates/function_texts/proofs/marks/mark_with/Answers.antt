use Rattle.std.proofs.Common.{◌+◌, length}
use Rattle.std.proofs.lemmas.List.{get_or_read}
use Rattle.function_texts.specs.Search.{IsLongest}
use Rattle.function_texts.proofs.SearchLemmas.{longest_more}
use Rattle.function_texts.proofs.MarkLemmas.{marked_more, marked_all}
use Rattle.function_texts.proofs.marks.mark_with.Goals as goal

pub loop-i-preserved : goal.loop-i-preserved
loop-i-preserved c =
    let part = c.args.part.now in
    let text = c.args.text.now in
    let i = c.loop-i.i in
    let longest : IsLongest part text (i + 1) (length part) c.next_length-length.result =
    longest_more part text i c.loop-i.length c.index-text-i.result c.next_length-length.result
    c.loop-i.invariant.longest c.next_length-length.ensures
    (get_or_read text i c.index-text-i.result c.loop-i-test.true c.index-text-i.is 0) in
    record {
      longest = longest;
      marked = marked_more part text i c.next_length-length.result c.args.marks.now c.loop-i.marks
          c.mark_ended.new.marks c.loop-i.invariant.marked c.loop-i-test.true
          c.requires.count c.requires.some longest c.mark_ended.ensures.all c.mark_ended.ensures.fewer;
    }

pub returns : goal.returns
returns c = marked_all c.args.part.now c.args.text.now c.loop-i.i c.args.marks.now c.loop-i.marks
    c.loop-i.invariant.marked c.loop-i-test.false c.loop-i.auto.i-end c.requires.some
