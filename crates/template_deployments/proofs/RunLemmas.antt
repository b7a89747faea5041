-- From what was run to what came of a deployment.
use Rattle.std.proofs.Common.{◌≡◌, inl, inr, ℕ, List, [], Option, Result, Ok, Err, sym, subst}
use Rattle.std.specs.Prelude.{IfOk}
use Rattle.std.specs.declared.alloc.AllocError.{AllocError}
use Rattle.command_reports.specs.declared.report.Report.{Report}
use Rattle.deploy_histories.specs.Planned.{Planned}
use Rattle.deploy_core.specs.declared.ending.Ending.TheVariants.{Succeeded}
use Rattle.run_reports.specs.Deployments.{DeploymentRun, Surroundings, Ran, Deployed, LeadsToStates}
use Rattle.run_reports.specs.Reported.{SaysRun, IsReported}
use Rattle.run_reports.specs.declared.outcome.Outcome.{Outcome}
use Rattle.template_deployments.specs.Came.{Terms, Came}

-- a run of a plan whose successes lead to desired states
pub deployed_by : (IsSource : Planned → Type 0) (s : Surroundings) (r : DeploymentRun) → LeadsToStates s.may r.planned
    → IsSource r.planned → Ran s r → Deployed IsSource s r
deployed_by IsSource s r leads source ran = record {
  source = source;
  success = λ os e.
      let ended = ran.ended (Succeeded os) e in
      let true_ending = ran.failure (Succeeded os) e in
      let led = leads r.history ran.order ran.given
      (record { none_begun = ended.none_begun; all_done = true_ending.0 }) os.items true_ending.1 in
      record { world = led.0; outcome = led.1.0; outputs = led.1.1 };
  order = ran.order;
  failure = ran.failure;
  calls = ran.calls;
}

-- what was reported of a run of a plan
pub came_run : (t : Terms) (s : Surroundings) (x : Planned) (o : Outcome)
    → LeadsToStates s.may x → t.IsSource x → IsReported s (t.named x) t.name x o → Came t s o
came_run t s x o leads source is = inr (record {
  run = is.run;
  deployed =
      deployed_by t.IsSource s is.run (subst (λ (y : Planned). LeadsToStates s.may y) (sym is.planned) leads)
      (subst t.IsSource (sym is.planned) source) is.ran;
  handed = is.handed;
  says = subst (λ (y : Planned). IfOk o.report (SaysRun (t.named y) t.name is.run.ending)) (sym is.planned) is.says;
  blamed = is.blamed;
})

-- nothing has happened, and no provider was called
pub came_out : (t : Terms) (s : Surroundings) (o : Outcome) → s.now ≡ s.before → o.history.items ≡ []
    → IfOk o.report t.IsRefusal → Came t s o
came_out t s o same nothing says = inl (record { says = says; nothing = nothing; untouched = same })

if_ok : {A : Type 0} (f g : A → Type 0) (r : Result A AllocError) → ((x : A) → f x → g x) → IfOk r f → IfOk r g
if_ok f g (Ok x) m h = m x h
if_ok f g (Err e) m h = tt

deployed_more : (f g : Planned → Type 0) (s : Surroundings) (r : DeploymentRun) → ((x : Planned) → f x → g x)
    → Deployed f s r → Deployed g s r
deployed_more f g s r m d = record {
  source = m r.planned d.source;
  success = d.success;
  order = d.order;
  failure = d.failure;
  calls = d.calls;
}

-- by other terms, which follow
pub came_more : (t u : Terms) (s : Surroundings) (o : Outcome)
    → ((r : Report) → t.IsRefusal r → u.IsRefusal r) → ((x : Planned) → t.IsSource x → u.IsSource x)
    → ((x : Planned) → t.named x ≡ u.named x) → t.name ≡ u.name → Came t s o → Came u s o
came_more t u s o refused source named name (inl d) = inl (record {
  says = if_ok t.IsRefusal u.IsRefusal o.report refused d.says;
  nothing = d.nothing;
  untouched = d.untouched;
})
came_more t u s o refused source named name (inr d) = inr (record {
  run = d.run;
  deployed = deployed_more t.IsSource u.IsSource s d.run source d.deployed;
  handed = d.handed;
  says =
      if_ok (SaysRun (t.named d.run.planned) t.name d.run.ending) (SaysRun (u.named d.run.planned) u.name d.run.ending)
      o.report
      (λ r h.
      subst (λ (n : List ℕ). SaysRun (u.named d.run.planned) n d.run.ending r) name
      (subst (λ (f : ℕ → Option (List ℕ)). SaysRun f t.name d.run.ending r) (named d.run.planned) h))
      d.says;
  blamed = d.blamed;
})
