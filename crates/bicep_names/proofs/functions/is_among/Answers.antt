use Rattle.std.proofs.Common.{◌+◌, [], get_or, drop, map}
use Rattle.std.specs.Str.{chars}
use Rattle.arm_value.proofs.TextLemmas.{is_folded}
use Rattle.bicep_names.proofs.functions.is_among.Goals as goal
use Rattle.arm_value.proofs.AmongLemmas.{Spelled, spelled, name_apart, no_name_left, name_found, name_passed, no_name}

pub returns-then-folded_eq : goal.returns-then-folded_eq
returns-then-folded_eq c =
    let names = c.args.names.now in
    let i = c.loop-other.other-index in
    let d : Spelled = record { ref_ptr = (0, 0); now = [] } in
    name_found (chars c.args.name.now) (spelled (get_or names i d)) (map spelled (drop (i + 1) names))
    (map spelled (drop i names)) _ (name_apart names i d c.loop-other-test.true)
    (is_folded _ _ _ c.if-folded_eq.ensures.0 c.if-folded_eq.ensures.1) c.loop-other.invariant

pub loop-other-preserved : goal.loop-other-preserved
loop-other-preserved c =
    let names = c.args.names.now in
    let i = c.loop-other.other-index in
    let d : Spelled = record { ref_ptr = (0, 0); now = [] } in
    name_passed (chars c.args.name.now) (spelled (get_or names i d)) (map spelled (drop (i + 1) names))
    (map spelled (drop i names)) _ (name_apart names i d c.loop-other-test.true)
    (is_folded _ _ _ c.if-folded_eq.ensures.0 c.if-folded_eq.ensures.1) c.loop-other.invariant

pub returns : goal.returns
returns c =
    no_name (chars c.args.name.now) (map spelled (drop c.loop-other.other-index c.args.names.now)) _
    (no_name_left c.args.names.now c.loop-other.other-index c.loop-other-test.false) c.loop-other.invariant
