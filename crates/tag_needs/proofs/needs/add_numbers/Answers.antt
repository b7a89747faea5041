use Rattle.tag_needs.proofs.NumberLemmas.{numbers_next}
use Rattle.tag_needs.proofs.needs.add_numbers.Goals as goal

pub loop-number-preserved : goal.loop-number-preserved
loop-number-preserved c =
    numbers_next c.loop-number.found c.insert.new.self c.args.found.now c.loop-number.number-index c.args.numbers.now
    c.loop-number-test.true c.in_ok-insert.ensures.updates c.loop-number.invariant
