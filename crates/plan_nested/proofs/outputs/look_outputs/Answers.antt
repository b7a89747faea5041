use Rattle.std.proofs.Common.{map}
use Rattle.arm_env.specs.Look.{a_list}
use Rattle.arm_env.specs.Sight.{declared_of}
use Rattle.plan_sight.specs.Sites.{outputs_at}
use Rattle.plan_table.specs.Whole.{whole_of}
use Rattle.plan_nested.proofs.OutputLemmas.{shows_as, found_goes, found_stops}
use Rattle.plan_nested.proofs.outputs.look_outputs.Goals as goal

pub returns-in-Ok : goal.returns-in-Ok
returns-in-Ok c =
    let t = c.args.table.now in
    λ e at.
    shows_as (λ v. a_list (map declared_of v.items)) t c.outputs_found.result _ _
    (found_goes t c.args.place.now c.args.key.now c.args.frame e at (outputs_at (whole_of t).template)
    c.in-Ok.sighting c.in-Ok.ensures.told) c.outputs_found.ensures

pub returns-in-Err : goal.returns-in-Err
returns-in-Err c =
    let t = c.args.table.now in
    λ e at.
    found_stops t c.args.place.now c.args.key.now c.args.frame e at (outputs_at (whole_of t).template) c.in-Err.lack
    c.in-Err.ensures.told
