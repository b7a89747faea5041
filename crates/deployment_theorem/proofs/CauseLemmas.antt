-- Why the program ends with its status.
use Rattle.std.proofs.Common.{◌≡◌, ◌⊎◌, ◌∙◌, inl, inr, ℕ, List, Option, Some, None, Result, Ok, Err, refl, sym}
use Rattle.std.proofs.Common.{subst, ap}
use Rattle.std.specs.Prelude.{IfOk}
use Rattle.std.specs.declared.alloc.AllocError.{AllocError}
use Rattle.arm_edges.specs.Faults.{Rose}
use Rattle.command_reports.specs.Faults.{fault_report}
use Rattle.command_reports.specs.Reports.{Reported, status_unprinted}
use Rattle.command_reports.specs.declared.faults.Fault.TheVariants as fault
use Rattle.command_reports.specs.declared.report.Report.{Report}
use Rattle.command_words.specs.Commands.{Request, ABuild, ADeploy, BuildRequest, DeployRequest}
use Rattle.deploy_core.specs.declared.ending.Ending.{Ending}
use Rattle.deploy_core.specs.declared.ending.Ending.TheVariants as ending
use Rattle.deployment_reports.specs.Reports.{status_of}
use Rattle.deployment_runs.specs.declared.fault.RunFault.{RunFault}
use Rattle.deployment_runs.specs.declared.fault.RunFault.TheVariants as run
use Rattle.deployment_theorem.specs.Causes.{IsRefused, Cause, done, refused, no_command, failed, by_tree}
use Rattle.deployment_theorem.specs.Causes.{by_output, by_provider, by_memory}
use Rattle.deployment_theorem.specs.Commands.{IsTemplate, IsRefusal, IsSourceOf, Deploys, Does, Says}
use Rattle.deployment_theorem.specs.Counts.{CountsTree}
use Rattle.deployment_theorem.specs.Sides.{Outside, Moment, folder_in, files_in, output_at, providers_in}
use Rattle.request_deployments.proofs.StatusLemmas.{of_refused}
use Rattle.request_deployments.specs.Came.{Terms, WasRun}
use Rattle.request_deployments.specs.Deployed.{place_in}
use Rattle.request_deployments.specs.Deploying.{terms}
use Rattle.request_deployments.specs.Reported.{SaysRun}
use Rattle.request_deployments.specs.Outcome.{Outcome}
use Rattle.source_builds.proofs.StatusLemmas.{of_not_built}
use Rattle.source_builds.specs.Refusals.{IsNotBuilt}

-- the report is that of a rule, or that memory is out, or that the tree has failed
abbrev IsRefusing : Report → Type 0
IsRefusing r = ((r.status ≡ 1) ⊎ (r ≡ fault_report fault.Memory)) ⊎ (r ≡ fault_report fault.Tree)

module _ (o : Outside) (before now : Moment) (command : Option Request) (c : Outcome) (status : ℕ) where
  abbrev IsPrinted : Report → Type 0
  IsPrinted r = Reported (output_at o before) (output_at o now) r status

  abbrev Caused : Type 0
  Caused = Cause o before now command c status

  -- a status of 0 to 3 is that of the report, unless the output has failed
  settled : (r : Report) (n : ℕ) → r.status ≡ n → status_unprinted n ≡ 5 → IsPrinted r → (status ≡ n → Caused) → Caused
  settled r n e u (inl p) k = k (p.reported ∙ e)
  settled r n e u (inr s) k = by_output (s.replaced ∙ ap status_unprinted e ∙ u) s.fault

  -- every other is that of the report
  kept : (r : Report) (n : ℕ) → r.status ≡ n → status_unprinted n ≡ n → IsPrinted r → status ≡ n
  kept r n e u (inl p) = p.reported ∙ e
  kept r n e u (inr s) = s.replaced ∙ ap status_unprinted e ∙ u

  -- memory was out for the report
  quiet : (x : AllocError) → c.report ≡ Err x → IsPrinted (fault_report fault.Memory) → Caused
  quiet x is says =
      by_memory (kept (fault_report fault.Memory) 9 refl refl says)
      (subst (λ (r : Result Report AllocError). IfOk r (λ q. q ≡ fault_report fault.Memory)) (sym is) tt)

  rose : (r : Report) → r ≡ fault_report fault.Tree → CountsTree before.tree_faults now.tree_faults (Ok r)
      → Rose before.tree_faults now.tree_faults
  rose r e (inl q) = absurd (q.1 (ap (λ (p : Report). p.status) e))
  rose r e (inr q) = q.0

  -- it was refused
  turned_down : (r : Report) → c.report ≡ Ok r → IsRefusing r → IsRefused o before now command c
      → CountsTree before.tree_faults now.tree_faults (Ok r) → IsPrinted r → Caused
  turned_down r is (inl (inl e)) h tree says = settled r 1 e refl says (λ s. refused s h)
  turned_down r is (inl (inr e)) h tree says =
      by_memory (kept r 9 (ap (λ (p : Report). p.status) e) refl says)
      (subst (λ (q : Result Report AllocError). IfOk q (λ p. p ≡ fault_report fault.Memory)) (sym is) e)
  turned_down r is (inr e) h tree says =
      by_tree (kept r 4 (ap (λ (p : Report). p.status) e) refl says) (rose r e tree)

module _ (o : Outside) (before now : Moment) (c : Outcome) (status : ℕ) where
  abbrev IsSaid : Result Report AllocError → Type 0
  IsSaid r = Says (output_at o before) (output_at o now) r status

  abbrev IsCounted : Result Report AllocError → Type 0
  IsCounted r = CountsTree before.tree_faults now.tree_faults r

  of_usage : (text : List ℕ) (r : Result Report AllocError) → c.report ≡ r
      → IfOk r (λ p. p ≡ record { text = text; status = 2 }) → IsSaid r → Cause o before now None c status
  of_usage text (Ok p) is h says =
      settled o before now None c status p 2 (ap (λ (q : Report). q.status) h) refl says (λ s. no_command s refl)
  of_usage text (Err x) is h says = quiet o before now None c status x is says

  of_build : (b : BuildRequest) (r : Result Report AllocError) → c.report ≡ r
      → IfOk r (λ p. IsTemplate (folder_in o) b p ⊎ IsNotBuilt (folder_in o) b.file b.form p) → IsCounted r → IsSaid r
      → Cause o before now (Some (ABuild b)) c status
  of_build b (Ok p) is (inl t) tree says =
      settled o before now (Some (ABuild b)) c status p 0 t.status refl says
      (λ s. done s (record { report = p; is = is; so = t }))
  of_build b (Ok p) is (inr n) tree says =
      turned_down o before now (Some (ABuild b)) c status p is (of_not_built (folder_in o) b.file b.form p n)
      (record { report = p; is = is; so = n }) tree says
  of_build b (Err x) is h tree says = quiet o before now (Some (ABuild b)) c status x is says

  module _ (d : DeployRequest) where
    abbrev Judged : Terms
    Judged = terms (IsRefusal (folder_in o) d) (IsSourceOf (folder_in o) d) (place_in d)

    refusing : (p : Report) → IsRefusal (folder_in o) d p → IsRefusing p
    refusing p (inl n) = of_not_built (folder_in o) d.file d.form p n
    refusing p (inr n) = of_refused (files_in (folder_in o)) d n.bytes p n.refused

    of_refusal : (r : Result Report AllocError) → c.report ≡ r → IfOk r (IsRefusal (folder_in o) d) → IsCounted r
        → IsSaid r → Cause o before now (Some (ADeploy d)) c status
    of_refusal (Ok p) is h tree says =
        turned_down o before now (Some (ADeploy d)) c status p is (refusing p h)
        (record { report = p; is = is; so = h }) tree says
    of_refusal (Err x) is h tree says = quiet o before now (Some (ADeploy d)) c status x is says

    module _ (w : WasRun Judged (providers_in o before now) c) where
      abbrev Deployed : Type 0
      Deployed = Cause o before now (Some (ADeploy d)) c status

      of_failure : (p : Report) (e : Ending) → w.run.ending ≡ Ok e → status_of e ≡ 3 → p.status ≡ 3
          → Reported (output_at o before) (output_at o now) p status → Deployed
      of_failure p e ends has h says =
          settled o before now (Some (ADeploy d)) c status p 3 h refl says
          (λ s. failed s (record { ran = w; ending = e; is = ends; has = has }))

      of_ending : (p : Report) (e : Ending) → w.run.ending ≡ Ok e → p.status ≡ status_of e
          → Reported (output_at o before) (output_at o now) p status → Deployed
      of_ending p (ending.Succeeded os) ends h says =
          settled o before now (Some (ADeploy d)) c status p 0 h refl says
          (λ s. done s (record { ran = w; ending = ending.Succeeded os; is = ends; has = refl }))
      of_ending p (ending.Refused u code) ends h says = of_failure p (ending.Refused u code) ends refl h says
      of_ending p (ending.Faulty u said) ends h says = of_failure p (ending.Faulty u said) ends refl h says
      of_ending p (ending.Circular us) ends h says = of_failure p (ending.Circular us) ends refl h says

      of_run : (named : ℕ → Option (List ℕ)) (name : List ℕ) (e : Result Ending RunFault) → w.run.ending ≡ e
          → (r : Result Report AllocError) → c.report ≡ r → IfOk r (SaysRun named name e) → IsSaid r → Deployed
      of_run named name (Ok e) ends (Ok p) is h says = of_ending p e ends h.1 says
      of_run named name (Err (run.Provider k)) ends (Ok p) is h says =
          by_provider
          (kept o before now (Some (ADeploy d)) c status p 7 (ap (λ (q : Report). q.status) h) refl says) k
          (is ∙ ap Ok h) (w.blamed k ends)
      of_run named name (Err run.OutOfMemory) ends (Ok p) is h says = absurd h
      of_run named name e ends (Err x) is h says = quiet o before now (Some (ADeploy d)) c status x is says

    of_deploy : Deploys o before now d c → IsCounted c.report → IsSaid c.report
        → Cause o before now (Some (ADeploy d)) c status
    of_deploy (inl t) tree says = of_refusal c.report refl t.says tree says
    of_deploy (inr w) tree says =
        of_run w (Judged.named w.run.planned) Judged.name w.run.ending refl c.report refl w.says says

-- by what it did, what the tree has counted and what was printed
pub caused : (o : Outside) (before now : Moment) (command : Option Request) (c : Outcome) (status : ℕ)
    → Does o before now command c → CountsTree before.tree_faults now.tree_faults c.report
    → Says (output_at o before) (output_at o now) c.report status → Cause o before now command c status
caused o before now None c status h tree says = of_usage o before now c status h.text c.report refl h.says says
caused o before now (Some (ABuild b)) c status h tree says =
    of_build o before now c status b c.report refl h.says tree says
caused o before now (Some (ADeploy d)) c status h tree says = of_deploy o before now c status d h tree says
