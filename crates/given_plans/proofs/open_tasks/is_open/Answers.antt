use Rattle.std.proofs.Common.{◌∙◌, ◌++◌, ◌∷◌, [], List, map, take, refl, sym, ap}
use Rattle.std.proofs.lemmas.List.{take_more}
use Rattle.provider_trait.specs.declared.event.Event.{Event}
use Rattle.deploy_histories.specs.Events.{Progress, progress}
use Rattle.board_history.specs.Past.{event_of}
use Rattle.given_plans.specs.Open.{is_open_now}
use Rattle.given_plans.proofs.OpenLemmas.{one_more}
use Rattle.given_plans.proofs.open_tasks.is_open.Goals as goal

pub loop-event-init : goal.loop-event-init
loop-event-init c = refl

pub loop-event-preserved : goal.loop-event-preserved
loop-event-preserved c =
    let xs = c.args.events.now in
    let i = c.loop-event.event-index in
    let x = c.event-item.result in
    c.open_after-open.ensures (progress (map event_of (take i xs))) c.loop-event.invariant
    ∙ ap (λ (p : Progress). is_open_now p c.args.task)
    (sym (ap (λ (es : List Event). progress (map event_of es))
    (take_more xs i x c.loop-event-test.true ∙ ap (λ (s : Event). take i xs ++ s ∷ []) (sym c.event-item.is))
    ∙ one_more (take i xs) x))
