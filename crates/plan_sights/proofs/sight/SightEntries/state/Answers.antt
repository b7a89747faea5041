use Rattle.std.proofs.Common.{refl}
use Rattle.arm_env.specs.Look as look
use Rattle.arm_env.specs.Look.{json_in}
use Rattle.plan_sights.specs.Seats.{seat_of}
use Rattle.plan_sights.proofs.SightLemmas.{state_awaited, await_stops}
use Rattle.plan_sights.proofs.sight.SightEntries.state.Goals as goal

pub returns : goal.returns
returns c =
    await_stops c.await_state.result (look.state c.args.key.now) _ c.await_state.ensures
    (state_awaited c.self.inside.table.now (seat_of c.self.inside.table.now c.self.inside.frame
    c.self.inside.place.now c.self.inside.loops.now
    c.self.inside.by_names) c.args.self.now c.self.view_is refl json_in c.args.key.now)
