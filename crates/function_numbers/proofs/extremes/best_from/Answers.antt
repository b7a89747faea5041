use Rattle.std.proofs.Common.{w64, rules}
use Rattle.std.specs.Prelude.{FitsSigned}
use Rattle.std.proofs.lemmas.Int.{to_z-of_z}
use Rattle.function_numbers.specs.Numbers.{better}
use Rattle.function_numbers.proofs.NumberLemmas.{best_more, best_fails, best_ends}
use Rattle.function_numbers.proofs.extremes.best_from.Goals as goal

pub loop-value-preserved : goal.loop-value-preserved
loop-value-preserved c =
    let first : FitsSigned w64 c.args.first = c.ranges.first in
    let number : FitsSigned w64 c.in-Some.number = search rules in
    let found : FitsSigned w64 c.better-best.result = search rules in
    simp to_z-of_z
    (best_more (better c.args.extreme) _ _ _ c.args.rest.now c.loop-value.value-index c.value-item.result _
    c.loop-value-test.true c.value-item.is c.in-Some.ensures (simp to_z-of_z at c.better-best.ensures)
    (simp to_z-of_z at c.loop-value.invariant))

pub returns-in-None : goal.returns-in-None
returns-in-None c =
    let first : FitsSigned w64 c.args.first = c.ranges.first in
    best_fails (better c.args.extreme) _ c.args.rest.now c.loop-value.value-index c.value-item.result _
    c.loop-value-test.true c.value-item.is c.in-None.ensures (simp to_z-of_z at c.loop-value.invariant)

pub returns : goal.returns
returns c =
    let first : FitsSigned w64 c.args.first = c.ranges.first in
    best_ends (better c.args.extreme) _ c.args.rest.now c.loop-value.value-index _ c.loop-value-test.false
    (simp to_z-of_z at c.loop-value.invariant)
