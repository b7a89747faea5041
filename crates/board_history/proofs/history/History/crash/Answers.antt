use Rattle.std.proofs.Common.{◌∷◌, ◌++◌, [], List, length, sym, ap, ◌∙◌, arith, vec_capacity}
use Rattle.std.proofs.lemmas.List.{length-map}
use Rattle.provider_trait.specs.declared.event.Event as noted
use Rattle.provider_trait.specs.declared.event.Event.TheVariants as noted_as
use Rattle.board_history.specs.Past.{event_of}
use Rattle.std.proofs.Common.{map, subst}
use Rattle.board_history.specs.declared.stage.Stage.{Stage}
use Rattle.board_history.specs.Stages.{IsKept, stage_at, closed_stage}
use Rattle.board_history.proofs.Keeping.{crashes, kept_pushed, given_back}
use Rattle.board_history.proofs.history.History.crash.Goals as goal

pub invariant_of-self-2 : goal.invariant_of-self-2
invariant_of-self-2 c =
    let b = c.reserve.ensures.len in
    let d = c.in_ok-reserve.ensures.ok in
    let e = c.push_reserved.ensures.capacity in
    let f = c.self.inside.events.ok.0 in
    let g = c.self.inside.stages.ok.0 in
    let v = c.deref_mut.ensures.value in
    let size = c.close_all.ensures.size ∙ ap (λ (ss : List Stage). length ss) v in
    subst (λ (ss : List Stage).
    IsKept (map event_of c.push_reserved.new.self.items) ss c.self.inside.refusal 0
    (vec_capacity c.push_reserved.new.self))
    (sym (given_back c.self.inside.stages.len c.self.inside.stages.items c.close_all.new.stages (omega (arith, g))
    size))
    (kept_pushed _ c.self.inside.events.items noted_as.Crash
    (c.push_reserved.ensures.items
    ∙ ap (λ (es : List noted.Event). es ++ noted_as.Crash ∷ []) c.reserve.ensures.items) _ _ _ _
    (crashes _ c.self.inside.stages.items c.close_all.new.stages _ _ _ c.self.invariant size
    (λ u. c.close_all.ensures.each u ∙ ap (λ (ss : List Stage). closed_stage (stage_at ss u)) v) _
    (omega (arith, b, d, e, f, length-map c.self.inside.events.items event_of))))
