use Rattle.reading.specs.Reading.{pure}
use Rattle.arm_env.specs.Look.{a_truth}
use Rattle.plan_sight.specs.Sites.{truth_of_found}
use Rattle.plan_nested.proofs.OutputLemmas.{shows_as, found_goes, found_stops}
use Rattle.plan_nested.proofs.look.look_deployment.Goals as goal

pub returns-in-Ok : goal.returns-in-Ok
returns-in-Ok c =
    let t = c.args.table.now in
    λ e at.
    shows_as (λ b. a_truth b) t c.is_seen.result _ _
    (found_goes t c.args.place.now c.args.key.now c.args.frame e at (λ f. pure (truth_of_found f)) c.in-Ok.sighting
    c.in-Ok.ensures.told) (c.is_seen.ensures t c.in-Ok.ensures.there)

pub returns-in-Err : goal.returns-in-Err
returns-in-Err c =
    let t = c.args.table.now in
    λ e at.
    found_stops t c.args.place.now c.args.key.now c.args.frame e at (λ f. pure (truth_of_found f)) c.in-Err.lack
    c.in-Err.ensures.told
