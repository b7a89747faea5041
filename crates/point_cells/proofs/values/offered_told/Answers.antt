use Rattle.std.proofs.Common.{ap}
use Rattle.std.specs.Prelude.{option_map}
use Rattle.arm_value.specs.View.{json}
use Rattle.plan_values.proofs.ValueLemmas.{spot_there, output_within}
use Rattle.point_cells.proofs.CellNowLemmas.{offered_if, offered_always}
use Rattle.point_cells.proofs.values.offered_told.Goals as goal

pub output_at-requires-clause-there : goal.output_at-requires-clause-there
output_at-requires-clause-there c = spot_there c.args.register.now.table c.args.frame c.requires.spot.there

pub output_at-requires-clause-number : goal.output_at-requires-clause-number
output_at-requires-clause-number c =
    output_within c.args.register.now.table c.args.frame c.args.number c.requires.spot.declared

pub told_in_scope-requires-clause-there : goal.told_in_scope-requires-clause-there
told_in_scope-requires-clause-there c = spot_there c.args.register.now.table c.args.frame c.requires.spot.there

pub returns-in-Some : goal.returns-in-Some
returns-in-Some c =
    let t = c.args.register.now.table in
    let w = c.args.later.now in
    offered_if t w c.args.frame c.requires.complete.ready (spot_there t c.args.frame c.requires.spot.there)
    c.told_in_scope.result c.args.number c.output_at.result.now (json c.in-Some.tree)
    (output_within t c.args.frame c.args.number c.requires.spot.declared) c.output_at.ensures
    (ap (option_map json) c.in-Some.is) c.told_in_scope.ensures

pub returns-in-None : goal.returns-in-None
returns-in-None c =
    let t = c.args.register.now.table in
    let w = c.args.later.now in
    offered_always t w c.args.frame c.requires.complete.ready (spot_there t c.args.frame c.requires.spot.there)
    c.args.number c.output_at.result.now (output_within t c.args.frame c.args.number c.requires.spot.declared)
    c.output_at.ensures (ap (option_map json) c.in-None.is)
