use Rattle.tag_needs.proofs.NumberLemmas.{once_next}
use Rattle.tag_needs.proofs.needs.each_once.Goals as goal

pub loop-tag-preserved : goal.loop-tag-preserved
loop-tag-preserved c =
    once_next c.loop-tag.set c.insert.new.self c.loop-tag.tag-index c.args.tags.now c.tag-item.result c.as_slice.result
    c.loop-tag-test.true c.tag-item.is c.as_slice.ensures.value c.in_ok-insert.ensures.keys c.loop-tag.invariant
