use Rattle.std.proofs.Common.{None, refl, sym, ap, ◌∙◌}
use Rattle.provider_trait.specs.declared.event.Event.{Event}
use Rattle.deploy_histories.specs.Events.{after, is_done, is_waiting}
use Rattle.board_history.specs.Past.{event_of}
use Rattle.given_plans.specs.Open.{is_open_now}
use Rattle.given_plans.proofs.OpenLemmas.{shut, opens, answered, all_shut}
use Rattle.given_plans.proofs.open_tasks.open_after.Goals as goal

pub returns-in-Enter : goal.returns-in-Enter
returns-in-Enter c =
    λ p i. c.but_not.ensures ∙ shut c.args.was p c.in-Enter.other c.args.task (is_done None) refl i
    ∙ ap (λ (e : Event). is_open_now (after (event_of e) p) c.args.task) (sym c.in-Enter.is)

pub returns-in-Back : goal.returns-in-Back
returns-in-Back c =
    λ p i. c.but_not-in-Back.ensures ∙ shut c.args.was p c.in-Back.other c.args.task is_waiting refl i
    ∙ ap (λ (e : Event). is_open_now (after (event_of e) p) c.args.task) (sym c.in-Back.is)

pub returns-in-Leave : goal.returns-in-Leave
returns-in-Leave c =
    λ p i. c.but_not-in-Leave.ensures ∙ shut c.args.was p c.in-Leave.other c.args.task (is_done None) refl i
    ∙ ap (λ (e : Event). is_open_now (after (event_of e) p) c.args.task) (sym c.in-Leave.is)

pub returns-in-Begin : goal.returns-in-Begin
returns-in-Begin c =
    λ p i. c.or_same.ensures ∙ opens c.args.was p c.in-Begin.other c.args.task _ _ i
    ∙ ap (λ (e : Event). is_open_now (after (event_of e) p) c.args.task) (sym c.in-Begin.is)

pub returns-in-Answer : goal.returns-in-Answer
returns-in-Answer c =
    λ p i. c.but_not-in-Answer.ensures ∙ answered c.args.was p c.in-Answer.other c.args.task _ i
    ∙ ap (λ (e : Event). is_open_now (after (event_of e) p) c.args.task) (sym c.in-Answer.is)

pub returns-in-Crash : goal.returns-in-Crash
returns-in-Crash c =
    λ p i. all_shut p c.args.task
    ∙ ap (λ (e : Event). is_open_now (after (event_of e) p) c.args.task) (sym c.in-Crash.is)
