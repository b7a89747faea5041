use Rattle.std.proofs.Common.{arith}
use Rattle.std.proofs.lemmas.List.{length-map}
use Rattle.board_history.specs.Past.{event_of}
use Rattle.board_history.proofs.Keeping.{has_room_for, begun_inside, goes_back, kept_pushed}
use Rattle.board_history.proofs.history.History.back.Goals as goal

pub overflow_sub-self : goal.overflow_sub-self
overflow_sub-self c =
    (has_room_for _ _ _ _ _ c.self.invariant c.args.task (begun_inside _ _ _ c.self.view_is c.args.task c.requires)).0

pub push_reserved-requires : goal.push_reserved-requires
push_reserved-requires c =
    let r = has_room_for _ _ _ _ _ c.self.invariant c.args.task
    (begun_inside _ _ _ c.self.view_is c.args.task c.requires) in
    let r1 = r.1 in
    let f = c.self.inside.events.ok.0 in omega (arith, r1, f, length-map c.self.inside.events.items event_of)

pub invariant_of-self : goal.invariant_of-self
invariant_of-self c =
    let b = begun_inside _ _ _ c.self.view_is c.args.task c.requires in
    let r = has_room_for _ _ _ _ _ c.self.invariant c.args.task b in
    let r0 = r.0 in
    let d = c.push_reserved.ensures.capacity in
    kept_pushed _ _ _ c.push_reserved.ensures.items _ _ _ _
    (goes_back _ _ _ _ _ c.self.invariant c.args.task b _ _ (omega (arith, r0)) (omega (arith, d)))
