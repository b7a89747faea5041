use Rattle.std.proofs.Common.{arith}
use Rattle.fault_finding.proofs.PlaceLemmas.{place_found, place_further, place_nowhere}
use Rattle.fault_finding.proofs.circle.place_in.Goals as goal

pub returns-then-places-number-clause-first : goal.returns-then-places-number-clause-first
returns-then-places-number-clause-first c =
    place_found c.args.wanted c.args.places.now c.loop-number.number c.loop-number-test.true c.loop-number.invariant
    c.if-places-number.true

pub loop-number-preserved : goal.loop-number-preserved
loop-number-preserved c =
    place_further c.args.wanted c.args.places.now c.loop-number.number c.loop-number-test.true c.loop-number.invariant
    c.if-places-number.false

pub returns-clause-first : goal.returns-clause-first
returns-clause-first c =
    let e = place_nowhere c.args.wanted c.args.places.now c.loop-number.number c.loop-number-test.false
    c.loop-number.invariant in
    let l = c.loop-number.auto.number-end in
    let m = c.loop-number-test.false in
    omega (arith, e, l, m)
