use Rattle.std.proofs.Common.{◌+◌, ap, subst, map, drop}
use Rattle.std.proofs.lemmas.List.{drop_all}
use Rattle.foundation.proofs.Lists.{next_item}
use Rattle.bicep_resolved.specs.View.{property_of, properties}
use Rattle.emitted_resources.specs.Extremes.{value_extremes}
use Rattle.emitted_resources.specs.Measures.{Begins}
use Rattle.emitted_resources.specs.Filled.{emission_sight}
use Rattle.emitted_modules.specs.Arguments.{argument_value, arguments_extremes}
use Rattle.emitted_modules.proofs.measured.all_arguments.Goals as goal

pub loop-member-preserved : goal.loop-member-preserved
loop-member-preserved c = λ fs h.
    let w = emission_sight c.args.table.now in
    let members = c.args.members.now in
    let i = c.loop-member.member-index in
    let p = property_of c.member-item.result in
    let whole = arguments_extremes w fs (properties (map property_of members)) in
    c.with-all.ensures.begins (value_extremes (argument_value w p.2 fs))
    (arguments_extremes w fs (properties (map property_of (drop (i + 1) members)))) whole
    (c.in_ok-measured_argument.ensures fs h)
    (subst (λ x. Begins c.loop-member.all x whole)
    (ap (λ xs. arguments_extremes w fs (properties (map property_of xs)))
    (next_item members i c.member-item.result c.loop-member-test.true c.member-item.is))
    (c.loop-member.invariant fs h))

pub returns : goal.returns
returns c = λ fs h.
    let w = emission_sight c.args.table.now in
    let members = c.args.members.now in
    let i = c.loop-member.member-index in
    let whole = arguments_extremes w fs (properties (map property_of members)) in
    c.ended.ensures whole
    (subst (λ x. Begins c.loop-member.all x whole)
    (ap (λ xs. arguments_extremes w fs (properties (map property_of xs)))
    (drop_all i members c.loop-member-test.false)) (c.loop-member.invariant fs h))
