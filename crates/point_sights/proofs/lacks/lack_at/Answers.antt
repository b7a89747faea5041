use Rattle.std.proofs.Common.{sym, subst, refl, map}
use Rattle.arm_value.specs.Json.{Json}
use Rattle.arm_value.specs.View.{json}
use Rattle.arm_env.specs.Cell.{look_of}
use Rattle.arm_env.specs.Look.{a_value, a_truth, a_list}
use Rattle.arm_env.specs.Sight.{declared_of}
use Rattle.plan_sight.specs.Seen.{Stops}
use Rattle.plan_telling.specs.Resolved.{stop_of}
use Rattle.plan_telling.specs.Seats.{site_of, seen_in}
use Rattle.point_sights.specs.PointSeats.{seat_now}
use Rattle.point_sights.proofs.TellNowLemmas.{deployment_now}
use Rattle.point_sights.proofs.lacks.lack_at.Goals as goal

pub returns-in-Parameter : goal.returns-in-Parameter
returns-in-Parameter c =
    λ loops.
    let t = c.args.register.now.table in
    let l = c.args.later.now in
    let seat = seat_now t l c.args.frame c.args.place.now loops c.args.by_names in
    subst (λ x. Stops {A = Json} t c.lack_in.result (stop_of (seen_in seat (look_of x)))) (sym c.in-Parameter.is)
    (c.lack_in.ensures (λ v. a_value (json v.now)) t _ (c.look_parameter.ensures c.args.place.now (site_of seat) refl))

pub returns-in-Variable : goal.returns-in-Variable
returns-in-Variable c =
    λ loops.
    let t = c.args.register.now.table in
    let l = c.args.later.now in
    let seat = seat_now t l c.args.frame c.args.place.now loops c.args.by_names in
    subst (λ x. Stops {A = Json} t c.lack_in-in-Variable.result (stop_of (seen_in seat (look_of x))))
    (sym c.in-Variable.is)
    (c.lack_in-in-Variable.ensures (λ v. a_value (json v.now)) t _ (c.look_variable.ensures c.args.place.now
    (site_of seat) refl))

pub returns-in-Output : goal.returns-in-Output
returns-in-Output c =
    λ loops.
    let t = c.args.register.now.table in
    let l = c.args.later.now in
    let seat = seat_now t l c.args.frame c.args.place.now loops c.args.by_names in
    subst (λ x. Stops {A = Json} t c.lack_in-in-Output.result (stop_of (seen_in seat (look_of x)))) (sym c.in-Output.is)
    (c.lack_in-in-Output.ensures (λ v. a_value (json v.now)) t _ (c.look_output.ensures (site_of seat) refl))

pub returns-in-State : goal.returns-in-State
returns-in-State c =
    λ loops.
    let t = c.args.register.now.table in
    let l = c.args.later.now in
    let seat = seat_now t l c.args.frame c.args.place.now loops c.args.by_names in
    subst (λ x. Stops {A = Json} t c.lack_in-in-State.result (stop_of (seen_in seat (look_of x)))) (sym c.in-State.is)
    (c.lack_in-in-State.ensures (λ v. a_value (json v.now)) t _ (c.look_state.ensures t))

pub returns-in-Named : goal.returns-in-Named
returns-in-Named c =
    λ loops.
    let t = c.args.register.now.table in
    let l = c.args.later.now in
    let seat = seat_now t l c.args.frame c.args.place.now loops c.args.by_names in
    subst (λ x. Stops {A = Json} t c.text_lack.result (stop_of (seen_in seat (look_of x)))) (sym c.in-Named.is)
    (c.text_lack.ensures)

pub returns-in-Deployment : goal.returns-in-Deployment
returns-in-Deployment c =
    λ loops.
    let t = c.args.register.now.table in
    let l = c.args.later.now in
    let seat = seat_now t l c.args.frame c.args.place.now loops c.args.by_names in
    subst (λ x. Stops {A = Json} t c.lack_in-in-Deployment.result (stop_of (seen_in seat (look_of x))))
    (sym c.in-Deployment.is)
    (c.lack_in-in-Deployment.ensures (λ b. a_truth b) t _ (deployment_now t l c.args.place.now (site_of seat)
    c.in-Deployment.key (λ b.
    a_truth b)
    c.look_deployment.result (c.look_deployment.ensures (site_of seat) refl)))

pub returns-in-Outputs : goal.returns-in-Outputs
returns-in-Outputs c =
    λ loops.
    let t = c.args.register.now.table in
    let l = c.args.later.now in
    let seat = seat_now t l c.args.frame c.args.place.now loops c.args.by_names in
    subst (λ x. Stops {A = Json} t c.lack_in-in-Outputs.result (stop_of (seen_in seat (look_of x))))
    (sym c.in-Outputs.is)
    (c.lack_in-in-Outputs.ensures (λ v. a_list (map declared_of v.items)) t _ (c.look_outputs.ensures
    (site_of seat) refl))
