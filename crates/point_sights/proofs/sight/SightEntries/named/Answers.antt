use Rattle.std.proofs.Common.{◌≡◌, refl, subst, Some, Ok, Err}
use Rattle.reading.specs.Knowledge.{value}
use Rattle.arm_ids.specs.declared.id.ResourceId.{ResourceId}
use Rattle.arm_env.specs.Look as look
use Rattle.arm_env.specs.Look.{a_key, key_in}
use Rattle.plan_sight.specs.Seen.{Lacks}
use Rattle.point_sights.specs.PointSeats.{seat_now}
use Rattle.plan_telling.proofs.SightLemmas.{shown, hidden, awaited, await_stops, unnamed, named_seen}
use Rattle.point_sights.proofs.TellNowLemmas.{named_now}
use Rattle.point_sights.proofs.sight.SightEntries.named.Goals as goal

pub returns-then-not-self : goal.returns-then-not-self
returns-then-not-self c =
    unnamed (seat_now c.self.inside.table.now c.self.inside.later.now c.self.inside.frame c.self.inside.place.now
    c.self.inside.loops.now
    c.self.inside.by_names) c.args.self.now c.self.view_is c.if-not-self.true key_in c.args.text.now

pub returns-in-Ok : goal.returns-in-Ok
returns-in-Ok c =
    let r = (seat_now c.self.inside.table.now c.self.inside.later.now c.self.inside.frame c.self.inside.place.now
    c.self.inside.loops.now
    c.self.inside.by_names) in
    shown r c.args.self.now c.self.view_is key_in (look.named c.args.text.now) (a_key c.in-Ok.key) c.in-Ok.key refl
    (subst (λ u. u ≡ value (Some (a_key c.in-Ok.key))) (named_seen r c.if-not-self.false c.args.text.now)
    (named_now c.self.inside.table.now c.self.inside.later.now c.self.inside.place.now r.1.0.0 c.args.text.now
    (λ k. a_key k) (Ok c.in-Ok.key) c.in-Ok.ensures))

pub returns-in-Nothing : goal.returns-in-Nothing
returns-in-Nothing c =
    let r = (seat_now c.self.inside.table.now c.self.inside.later.now c.self.inside.frame c.self.inside.place.now
    c.self.inside.loops.now
    c.self.inside.by_names) in
    hidden r c.args.self.now c.self.view_is key_in (look.named c.args.text.now) c.self.inside.table.now c.in-Err.lack
    c.in-Nothing.ensures
    (subst (Lacks c.self.inside.table.now c.in-Err.lack) (named_seen r c.if-not-self.false c.args.text.now)
    (named_now c.self.inside.table.now c.self.inside.later.now c.self.inside.place.now r.1.0.0 c.args.text.now
    (λ (k : ResourceId). a_key k) (Err c.in-Err.lack) c.in-Err.ensures))

pub returns-in-Missing : goal.returns-in-Missing
returns-in-Missing c =
    let r = (seat_now c.self.inside.table.now c.self.inside.later.now c.self.inside.frame c.self.inside.place.now
    c.self.inside.loops.now
    c.self.inside.by_names) in
    await_stops c.await_named.result (look.named c.args.text.now) _ c.await_named.ensures
    (awaited r c.args.self.now c.self.view_is key_in (look.named c.args.text.now) c.self.inside.table.now c.in-Err.lack
    c.in-Missing.ensures
    (subst (Lacks c.self.inside.table.now c.in-Err.lack) (named_seen r c.if-not-self.false c.args.text.now)
    (named_now c.self.inside.table.now c.self.inside.later.now c.self.inside.place.now r.1.0.0 c.args.text.now
    (λ (k : ResourceId). a_key k) (Err c.in-Err.lack) c.in-Err.ensures)))
