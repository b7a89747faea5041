use Rattle.arm_value.specs.Look.{fold}
use Rattle.arm_value.specs.View.{json}
use Rattle.arm_env.specs.Look.{a_value}
use Rattle.plan_sight.specs.Sites.{output_at}
use Rattle.plan_table.specs.Whole.{whole_of}
use Rattle.plan_nested.proofs.OutputLemmas.{shows_as, found_goes, found_stops}
use Rattle.plan_nested.proofs.look.look_output.Goals as goal

pub returns-in-Ok : goal.returns-in-Ok
returns-in-Ok c =
    let t = c.args.table.now in
    λ e at.
    shows_as (λ v. a_value (json v.now)) t c.output_found.result _ _
    (found_goes t c.args.place.now c.args.key.now c.args.frame e at
    (output_at (whole_of t).template (fold c.args.name.now)) c.in-Ok.sighting c.in-Ok.ensures.told)
    c.output_found.ensures

pub returns-in-Err : goal.returns-in-Err
returns-in-Err c =
    let t = c.args.table.now in
    λ e at.
    found_stops t c.args.place.now c.args.key.now c.args.frame e at
    (output_at (whole_of t).template (fold c.args.name.now)) c.in-Err.lack c.in-Err.ensures.told
