use Rattle.tag_needs.proofs.NumberLemmas.{shared_found, apart_next, apart_end}
use Rattle.tag_needs.proofs.shared.find_shared.Goals as goal

pub returns-in-Some-clause-shared : goal.returns-in-Some-clause-shared
returns-in-Some-clause-shared c =
    shared_found c.in_ok-numbers.numbers c.args.tags.now c.loop-number.number c.in-Some.other c.index-tags-number.result
    c.as_slice.result.now c.loop-number.invariant.numbers c.loop-number-test.true c.index-tags-number.is
    c.as_slice.ensures.value c.in-Some.ensures.some

pub loop-number-preserved : goal.loop-number-preserved
loop-number-preserved c = record {
  numbers = c.loop-number.invariant.numbers;
  apart = apart_next c.in_ok-numbers.numbers c.args.tags.now c.loop-number.number c.index-tags-number.result
      c.as_slice.result.now c.loop-number.invariant.numbers c.loop-number-test.true c.index-tags-number.is
      c.as_slice.ensures.value c.in-None.ensures.none c.loop-number.invariant.apart;
}

pub returns-clause-apart : goal.returns-clause-apart
returns-clause-apart c =
    apart_end c.args.tags.now c.loop-number.number c.loop-number-test.false c.loop-number.invariant.apart
