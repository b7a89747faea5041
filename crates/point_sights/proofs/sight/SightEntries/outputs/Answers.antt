use Rattle.std.proofs.Common.{refl, map}
use Rattle.arm_env.specs.Look as look
use Rattle.arm_env.specs.Look.{a_list, list_in}
use Rattle.arm_env.specs.Sight.{declared_of}
use Rattle.plan_telling.specs.Seats.{site_of}
use Rattle.point_sights.specs.PointSeats.{seat_now}
use Rattle.plan_telling.proofs.SightLemmas.{shown, hidden, awaited, await_stops}
use Rattle.point_sights.proofs.sight.SightEntries.outputs.Goals as goal

pub returns-in-Ok : goal.returns-in-Ok
returns-in-Ok c =
    let r = (seat_now c.self.inside.table.now c.self.inside.later.now c.self.inside.frame c.self.inside.place.now
    c.self.inside.loops.now
    c.self.inside.by_names) in
    shown r c.args.self.now c.self.view_is list_in (look.outputs c.args.key.now) (a_list (map declared_of
    c.in-Ok.outputs.items)) (map declared_of c.in-Ok.outputs.items) refl (c.in-Ok.ensures (site_of r) refl)

pub returns-in-Nothing : goal.returns-in-Nothing
returns-in-Nothing c =
    let r = (seat_now c.self.inside.table.now c.self.inside.later.now c.self.inside.frame c.self.inside.place.now
    c.self.inside.loops.now
    c.self.inside.by_names) in
    hidden r c.args.self.now c.self.view_is list_in (look.outputs c.args.key.now) c.self.inside.table.now c.in-Err.lack
    c.in-Nothing.ensures (c.in-Err.ensures (site_of r) refl)

pub returns-in-Missing : goal.returns-in-Missing
returns-in-Missing c =
    let r = (seat_now c.self.inside.table.now c.self.inside.later.now c.self.inside.frame c.self.inside.place.now
    c.self.inside.loops.now
    c.self.inside.by_names) in
    await_stops c.await_outputs.result (look.outputs c.args.key.now) _ c.await_outputs.ensures
    (awaited r c.args.self.now c.self.view_is list_in (look.outputs c.args.key.now) c.self.inside.table.now
    c.in-Err.lack
    c.in-Missing.ensures (c.in-Err.ensures (site_of r) refl))
