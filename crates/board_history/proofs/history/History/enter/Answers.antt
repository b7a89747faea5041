use Rattle.std.proofs.Common.{◌∷◌, ◌++◌, [], List, ap, ◌∙◌, arith}
use Rattle.provider_trait.specs.declared.event.Event as noted
use Rattle.provider_trait.specs.declared.event.Event.TheVariants as noted_as
use Rattle.board_history.proofs.Keeping.{waiting_inside, within_inside, enters_at}
use Rattle.board_history.proofs.history.History.enter.Goals as goal

pub invariant_of-self-2 : goal.invariant_of-self-2
invariant_of-self-2 c =
    let a = c.len.ensures in
    let b = c.reserve.ensures.len in
    let d = c.in_ok-reserve.ensures.ok in
    let e = c.push_reserved.ensures.capacity in
    let f = c.self.inside.events.ok.0 in
    enters_at c.self.inside.events.items _ _ _ _ _ c.len.result c.self.invariant (omega (arith, a, b, f)) c.args.task
    (c.push_reserved.ensures.items
    ∙ ap (λ (es : List noted.Event). es ++ noted_as.Enter c.args.task ∷ []) c.reserve.ensures.items)
    (within_inside _ _ _ c.self.view_is c.args.task c.requires.within)
    (waiting_inside _ _ _ c.self.view_is c.args.task c.requires.waits) _ (omega (arith, a, b, d, e, f))
