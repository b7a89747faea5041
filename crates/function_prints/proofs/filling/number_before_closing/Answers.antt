use Rattle.std.proofs.Common.{arith}
use Rattle.function_prints.proofs.FormatLemmas.{numbered-all, number_closes, number_is_empty, number_goes_on}
use Rattle.function_prints.proofs.FormatLemmas.{number_stops, number_ends, is_below}
use Rattle.function_prints.proofs.filling.number_before_closing.Goals as goal

pub loop-i-init : goal.loop-i-init
loop-i-init c = record { left = numbered-all c.args.bound c.args.characters.now; within = λ h. absurd (omega arith) }

pub returns-then-i-gt0-clause-value : goal.returns-then-i-gt0-clause-value
returns-then-i-gt0-clause-value c =
    number_closes c.args.bound c.loop-i.i c.loop-i.number c.index-characters-i.result c.args.characters.now _
    c.loop-i-test.true c.index-characters-i.is c.if-character-eq125.true c.if-i-gt0.true
    (c.loop-i.invariant.within c.if-i-gt0.true) c.loop-i.invariant.left

pub returns-else-i-gt0-clause-value : goal.returns-else-i-gt0-clause-value
returns-else-i-gt0-clause-value c =
    number_is_empty c.args.bound c.loop-i.i c.loop-i.number c.index-characters-i.result c.args.characters.now _
    c.loop-i-test.true c.index-characters-i.is c.if-character-eq125.true c.if-i-gt0.false c.loop-i.invariant.left

pub returns-in-None-clause-value : goal.returns-in-None-clause-value
returns-in-None-clause-value c =
    number_stops c.args.bound c.loop-i.i c.loop-i.number c.index-characters-i.result c.args.characters.now _
    c.loop-i-test.true c.index-characters-i.is c.if-character-eq125.false c.in-None.ensures
    c.loop-i.invariant.left

pub loop-i-preserved : goal.loop-i-preserved
loop-i-preserved c = record {
  left = number_goes_on c.args.bound c.loop-i.i c.loop-i.number c.in-Some.longer c.index-characters-i.result
      c.args.characters.now _ c.loop-i-test.true c.index-characters-i.is c.if-character-eq125.false c.in-Some.ensures
      c.loop-i.invariant.left;
  within = λ h. is_below c.args.bound c.in-Some.longer _ c.in-Some.ensures;
}

pub returns-clause-value : goal.returns-clause-value
returns-clause-value c =
    number_ends c.args.bound c.loop-i.i c.loop-i.number c.args.characters.now _ c.loop-i-test.false
    c.loop-i.invariant.left
