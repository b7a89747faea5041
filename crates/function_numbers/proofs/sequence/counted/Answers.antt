use Rattle.std.proofs.Common.{w64, arith}
use Rattle.std.specs.Prelude.{FitsSigned}
use Rattle.std.proofs.lemmas.Int.{to_z-of_z, ints}
use Rattle.function_numbers.proofs.NumberLemmas.{counted_more, counted_ends, range_bounds}
use Rattle.function_numbers.proofs.sequence.counted.Goals as goal

pub loop-i-preserved : goal.loop-i-preserved
loop-i-preserved c =
    let first : FitsSigned w64 c.args.first = c.ranges.first in
    let bounds = range_bounds c.args.first c.args.count c.requires in
    simp to_z-of_z
    (counted_more c.loop-i.items c.push.new.self c.args.first _ c.loop-i.i c.args.count _ c.loop-i-test.true
    (omega (arith, ints, c.from.ensures)) c.in_ok-push.ensures (simp to_z-of_z at c.loop-i.invariant))

pub returns : goal.returns
returns c =
    let first : FitsSigned w64 c.args.first = c.ranges.first in
    counted_ends c.loop-i.items c.args.first c.loop-i.i c.args.count _ c.loop-i-test.false
    (simp to_z-of_z at c.loop-i.invariant)
