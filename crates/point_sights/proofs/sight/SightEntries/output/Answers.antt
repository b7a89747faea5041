use Rattle.std.proofs.Common.{refl}
use Rattle.arm_value.specs.Look.{fold}
use Rattle.arm_value.specs.View.{json}
use Rattle.arm_env.specs.Look as look
use Rattle.arm_env.specs.Look.{a_value, json_in}
use Rattle.plan_telling.specs.Seats.{site_of}
use Rattle.point_sights.specs.PointSeats.{seat_now}
use Rattle.plan_telling.proofs.SightLemmas.{shown, hidden, awaited, await_stops}
use Rattle.point_sights.proofs.sight.SightEntries.output.Goals as goal

pub returns-in-Ok : goal.returns-in-Ok
returns-in-Ok c =
    let r = (seat_now c.self.inside.table.now c.self.inside.later.now c.self.inside.frame c.self.inside.place.now
    c.self.inside.loops.now
    c.self.inside.by_names) in
    shown r c.args.self.now c.self.view_is json_in (look.output c.args.key.now (fold c.args.name.now)) (a_value
    (json c.in-Ok.value.now)) (json c.in-Ok.value.now) refl (c.in-Ok.ensures (site_of r) refl)

pub returns-in-Nothing : goal.returns-in-Nothing
returns-in-Nothing c =
    let r = (seat_now c.self.inside.table.now c.self.inside.later.now c.self.inside.frame c.self.inside.place.now
    c.self.inside.loops.now
    c.self.inside.by_names) in
    hidden r c.args.self.now c.self.view_is json_in (look.output c.args.key.now (fold c.args.name.now))
    c.self.inside.table.now c.in-Err.lack
    c.in-Nothing.ensures (c.in-Err.ensures (site_of r) refl)

pub returns-in-Missing : goal.returns-in-Missing
returns-in-Missing c =
    let r = (seat_now c.self.inside.table.now c.self.inside.later.now c.self.inside.frame c.self.inside.place.now
    c.self.inside.loops.now
    c.self.inside.by_names) in
    await_stops c.await_output.result (look.output c.args.key.now (fold c.args.name.now)) _ c.await_output.ensures
    (awaited r c.args.self.now c.self.view_is json_in (look.output c.args.key.now (fold c.args.name.now))
    c.self.inside.table.now c.in-Err.lack
    c.in-Missing.ensures (c.in-Err.ensures (site_of r) refl))
