use Rattle.std.proofs.Common.{◌≡◌, ◌∙◌, sym, ap, true}
use Rattle.driver_fakes.specs.Needs.{needs_at}
use Rattle.driver_fakes.specs.ScriptedDealers.{hand_of}
use Rattle.driver_fakes.specs.Stages.{is_open, is_ready_at}
use Rattle.driver_fakes.proofs.DealingLemmas.{begins_asks}
use Rattle.driver_fakes.proofs.StageLemmas.{not_begun, ready_waits}
use Rattle.driver_fakes.proofs.scripted_dealer.ScriptedDealerDealer.next.Goals as goal

pub returns-in-Some-clause-asked : goal.returns-in-Some-clause-asked
returns-in-Some-clause-asked c =
    let d = c.args.self.now in
    let task = c.in-Some.task in
    let ready : is_ready_at d.stages.items (needs_at d.needs.items task) task ≡ true =
    (λ i. is_ready_at (sym c.as_slice-2.ensures.value i) (needs_at (sym c.as_slice-3.ensures.value i) task) task)
    ∙ c.in-Some.ensures.2 in
    begins_asks (hand_of d) (hand_of c.begin.new.self) task c.args.worker c.begin.result
    (not_begun task d.steps.items
    (ap is_open (sym (d.stages_are task) ∙ ready_waits d.stages.items (needs_at d.needs.items task) task ready)))
    c.begin.ensures
