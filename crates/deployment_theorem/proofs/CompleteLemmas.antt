-- Where nothing keeps a command from what it asks, it ends with status 0, or memory was out.
use Rattle.std.proofs.Common.{◌≡◌, ◌∙◌, inl, inr, ℕ, List, Option, Some, None, Result, Ok, sym, subst}
use Rattle.std.proofs.Common.{map, arith}
use Rattle.std.specs.declared.alloc.AllocError.{AllocError}
use Rattle.command_reports.specs.Reports.{Reported}
use Rattle.command_reports.specs.declared.report.Report.{Report}
use Rattle.command_words.specs.Commands.{Request, ABuild, ADeploy, DeployRequest}
use Rattle.deploy_core.specs.Endings.{IsTrueEnding}
use Rattle.deploy_core.specs.declared.ending.Ending.{Ending}
use Rattle.deploy_core.specs.declared.ending.Ending.TheVariants as ending
use Rattle.deploy_histories.specs.Events.{Event, Progress, progress}
use Rattle.deploy_histories.specs.Legal.{IsLegal}
use Rattle.deploy_histories.specs.Planned.{Planned}
use Rattle.deployment_reports.specs.Reports.{status_of}
use Rattle.deployment_theorem.specs.Causes.{Reports, HasEnded, IsRefused, HasFailedTo, Cause, done, refused}
use Rattle.deployment_theorem.specs.Causes.{no_command, failed, by_tree, by_output, by_provider, by_memory}
use Rattle.deployment_theorem.specs.Commands.{Says}
use Rattle.deployment_theorem.specs.Completeness.{NoRule, IsPassable, IsPassed, IsAccepted, NoneFailed, IsComplete}
use Rattle.deployment_theorem.specs.Sides.{Outside, Moment, output_at, providers_in}
use Rattle.request_deployments.specs.Past.{event_of}
use Rattle.request_deployments.specs.Outcome.{Outcome}
use Rattle.task_standings.specs.Failures.{Tells}

some_none : {A : Type 0} {x : A} → Some x ≡ None → ⊥
some_none e = cc

zero_three : ◌≡◌ {A = ℕ} 0 3 → ⊥
zero_three e = omega (arith, e)

-- a failure is no true ending of what is kept from nothing
no_failure : (tells : Tells) (x : Planned) (p : Progress) (e : Ending) → IsPassable x p → IsTrueEnding tells x p e
    → status_of e ≡ 3 → ⊥
no_failure tells x p (ending.Succeeded os) k h s = zero_three s
no_failure tells x p (ending.Refused u code) k h s = some_none (sym h ∙ k.unrefused)
no_failure tells x p (ending.Faulty u said) k h s = k.faultless u h.0 h.1.1
no_failure tells x p (ending.Circular us) k h s = k.orderly us.items h

module _ (o : Outside) (before now : Moment) (c : Outcome) (status : ℕ) (none : NoneFailed before now) where
  -- the status is that of the report
  reported : (r : Report) (q : Result Report AllocError) → q ≡ Ok r
      → Says (output_at o before) (output_at o now) q status → status ≡ r.status
  reported r q e says = of (subst (λ (p : Result Report AllocError). Says (output_at o before) (output_at o now) p
      status) e says)
    where
      of : Reported (output_at o before) (output_at o now) r status → status ≡ r.status
      of (inl p) = p.reported
      of (inr s) = absurd (none.output s.fault)

  -- no rule has refused it
  unruled : (IsReason : Report → Type 0) → NoRule IsReason → Reports IsReason c → status ≡ 1
      → Says (output_at o before) (output_at o now) c.report status → ⊥
  unruled IsReason none_holds h s says = none_holds h.report h.so (sym (reported h.report c.report h.is says) ∙ s)

  no_refusal : (command : Option Request) → IsAccepted o command c → IsRefused o before now command c → status ≡ 1
      → Says (output_at o before) (output_at o now) c.report status → ⊥
  no_refusal None a h s says = h
  no_refusal (Some (ABuild b)) a h s says = unruled _ a h s says
  no_refusal (Some (ADeploy d)) a h s says = unruled _ a.0 h s says

  -- the deployment has not failed
  succeeded : (d : DeployRequest) → IsPassed o d (map event_of c.history.items) → HasEnded o before now d c 3 → ⊥
  succeeded d passed h =
      let s = providers_in o before now in
      let x = h.ran.run.planned in
      let past = sym h.ran.handed in
      no_failure s.tells_faults x (progress (map event_of c.history.items)) h.ending
      (passed x h.ran.deployed.source (subst (IsLegal x) past h.ran.deployed.order))
      (subst (λ (es : List Event). IsTrueEnding s.tells_faults x (progress es) h.ending) past
      (h.ran.deployed.failure h.ending h.is)) h.has

  no_failing : (command : Option Request) → IsAccepted o command c → HasFailedTo o before now command c → ⊥
  no_failing None a h = h
  no_failing (Some (ABuild b)) a h = h
  no_failing (Some (ADeploy d)) a h = succeeded d a.1 h

  no_usage : (command : Option Request) → command ≡ None → IsAccepted o command c → ⊥
  no_usage command e a = subst (λ (q : Option Request). IsAccepted o q c) e a

pub completed : (o : Outside) (before now : Moment) (command : Option Request) (c : Outcome) (status : ℕ)
    → Says (output_at o before) (output_at o now) c.report status → Cause o before now command c status
    → IsComplete o before now command c status
completed o before now command c status says (done s h) = λ a none. inl s
completed o before now command c status says (refused s h) =
    λ a none. absurd (no_refusal o before now c status none command a h s says)
completed o before now command c status says (no_command s e) =
    λ a none. absurd (no_usage o before now c status none command e a)
completed o before now command c status says (failed s h) =
    λ a none. absurd (no_failing o before now c status none command a h)
completed o before now command c status says (by_tree s h) = λ a none. absurd (none.tree h)
completed o before now command c status says (by_output s h) = λ a none. absurd (none.output h)
completed o before now command c status says (by_provider s k is h) = λ a none. absurd (none.providers k h)
completed o before now command c status says (by_memory s h) = λ a none. inr s
