-- What the report of a refusal is: that of a rule, or that memory is out; and the status of a run.
use Rattle.std.proofs.Common.{◌≡◌, ◌⊎◌, inl, inr, ℕ, List, Option, Result, Ok, Err, refl, subst, sym, arith, ◌∙◌}
use Rattle.std.proofs.Common.{[], ◌++◌, ap, codes, encode_utf8_all}
use Rattle.arm_value.specs.Json.{Json}
use Rattle.command_refusals.specs.Requests.{name_report, parameter_report}
use Rattle.command_refusals.specs.Templates.{template_report, unsuited, bind_report, plan_report}
use Rattle.command_reports.specs.Faults.{fault_report}
use Rattle.command_reports.specs.declared.faults.Fault.TheVariants.{Memory, Tree}
use Rattle.command_reports.specs.declared.report.Report.{Report}
use Rattle.command_words.specs.Commands.{DeployRequest}
use Rattle.deploy_core.specs.declared.ending.Ending.{Ending}
use Rattle.deploy_core.specs.declared.ending.Ending.TheVariants as ending
use Rattle.deployment_reports.specs.Reports.{status_of}
use Rattle.deployment_requests.specs.Requests.{Request}
use Rattle.run_reports.specs.RunFault.{RunFault}
use Rattle.run_reports.specs.RunFault.TheVariants as run
use Rattle.parameter_files.specs.declared.fault.ParameterFault.{ParameterFault}
use Rattle.parameter_files.specs.declared.fault.ParameterFault.TheVariants as file
use Rattle.plan_faults.specs.declared.fault.PlanFault.{PlanFault}
use Rattle.plan_faults.specs.declared.fault.PlanFault.TheVariants as plan
use Rattle.run_reports.specs.Reported.{SaysRun}
use Rattle.template_deployments.specs.Refusals.{IsRefusal, IsUnrun}
use Rattle.template_parts.specs.declared.fault.BindFault.{BindFault}
use Rattle.template_parts.specs.declared.fault.BindFault.TheVariants as bind
use Rattle.template_parts.specs.declared.fault.TemplateFault.{TemplateFault}
use Rattle.template_parts.specs.declared.fault.TemplateFault.TheVariants as template
use Rattle.template_parts.specs.declared.given.GivenValue.{GivenValue}
use Rattle.request_deployments.specs.Given.{IsBadName, IsRefusedGiven}
use Rattle.request_deployments.specs.Refused.{IsRefused}
use Rattle.request_deployments.specs.Requested.{Files}

-- the status is 1, or memory is out
abbrev pub IsRuled : Report → Type 0
IsRuled r = (r.status ≡ 1) ⊎ (r ≡ fault_report Memory)

-- other statuses than 4
pub zero_status : {n : ℕ} → n ≡ 0 → ¬ (n ≡ 4)
zero_status e = λ f. omega (arith, e, f)

pub one : {n : ℕ} → n ≡ 1 → ¬ (n ≡ 4)
one e = λ f. omega (arith, e, f)

pub three : {n : ℕ} → n ≡ 3 → ¬ (n ≡ 4)
three e = λ f. omega (arith, e, f)

pub seven : {n : ℕ} → n ≡ 7 → ¬ (n ≡ 4)
seven e = λ f. omega (arith, e, f)

pub nine : {n : ℕ} → n ≡ 9 → ¬ (n ≡ 4)
nine e = λ f. omega (arith, e, f)

-- the report of a rule is not that of a fault of the tree
pub not_tree : (r : Report) → IsRuled r → ¬ (r.status ≡ 4)
not_tree r (inl e) = one e
not_tree r (inr e) = nine (ap (λ (q : Report). q.status) e)

of_template : (f : TemplateFault) → IsRuled (template_report f)
of_template (template.Missing path) = inl refl
of_template (template.WrongForm path) = inl refl
of_template (template.Limit which n) = inl refl
of_template (template.BadExpression path) = inl refl
of_template (template.ReferenceInVariable path) = inl refl
of_template template.OutOfMemory = inr refl

of_unsuited : (code before : List ℕ) (f : BindFault) → IsRuled (unsuited code before f)
of_unsuited code before (bind.ExtraParameter name) = inl refl
of_unsuited code before (bind.MissingParameter name) = inl refl
of_unsuited code before (bind.WrongType name) = inl refl
of_unsuited code before (bind.NotAllowed name) = inl refl
of_unsuited code before (bind.OutOfBounds name) = inl refl
of_unsuited code before bind.OutOfMemory = inr refl

of_plan : (f : PlanFault) → IsRuled (plan_report f)
of_plan (plan.NotStartKnown path key) = inl refl
of_plan (plan.NoValue path) = inl refl
of_plan (plan.SameKey first second) = inl refl
of_plan (plan.Limit which n) = inl refl
of_plan (plan.UnknownDependency path) = inl refl
of_plan (plan.AmbiguousDependency path) = inl refl
of_plan (plan.Circle paths) = inl refl
of_plan (plan.Bind path fault) =
    of_unsuited (codes "InvalidTemplate") (codes "Bind " ++ (encode_utf8_all path ++ codes " ")) fault
of_plan plan.OutOfMemory = inr refl

same_ruled : (r q : Report) → r ≡ q → IsRuled q → IsRuled r
same_ruled r q e = subst IsRuled (sym e)

same_status : (r q : Report) → r ≡ q → ¬ (q.status ≡ 4) → ¬ (r.status ≡ 4)
same_status r q e fine = subst (λ (x : Report). ¬ (x.status ≡ 4)) (sym e) fine

of_refusal : (v : Json) (q : Request) (r : Report) → IsRefusal v q r → IsRuled r
of_refusal v q r (inl n) = same_ruled r (template_report n.0) n.1.1 (of_template n.0)
of_refusal v q r (inr u) = of u.1.1
  where
    of : IsUnrun q u.0 r → IsRuled r
    of (inl b) = same_ruled r (bind_report b.0) b.1.1 (of_unsuited (codes "InvalidParameter") [] b.0)
    of (inr p) = same_ruled r (plan_report p.fault) p.report (of_plan p.fault)

pub of_given : (d : DeployRequest) (bytes : List ℕ) (given : List GivenValue) (r : Report)
    → IsBadName d r ⊎ IsRefusedGiven bytes d given r → IsRuled r
of_given d bytes given r (inl b) = same_ruled r (name_report b.name) b.report (inl refl)
of_given d bytes given r (inr u) = of_refusal u.refused.value _ r u.refused.refused

of_file : (name : List ℕ) (f : ParameterFault)
    → IsRuled (parameter_report name f) ⊎ (parameter_report name f ≡ fault_report Tree)
of_file name file.Missing = inl (inl refl)
of_file name file.TooLarge = inl (inl refl)
of_file name file.NotJson = inl (inl refl)
of_file name file.TooDeep = inl (inl refl)
of_file name file.NotWhole = inl (inl refl)
of_file name file.WrongForm = inl (inl refl)
of_file name file.Fault = inr refl
of_file name file.OutOfMemory = inl (inr refl)

-- of all reasons for which a request is refused; of the tree it is reported that it has failed
pub of_refused : (fs : Files) (d : DeployRequest) (bytes : List ℕ) (r : Report) → IsRefused fs d bytes r
    → IsRuled r ⊎ (r ≡ fault_report Tree)
of_refused fs d bytes r (inl u) =
    subst (λ (q : Report). IsRuled q ⊎ (q ≡ fault_report Tree)) (sym u.report) (of_file u.file u.fault)
of_refused fs d bytes r (inr (inl m)) = inl (same_ruled r (name_report m.name) m.report (inl refl))
of_refused fs d bytes r (inr (inr u)) = inl (of_refusal u.value u.request r u.refused)

of_ending : (e : Ending) → ¬ (status_of e ≡ 4)
of_ending (ending.Succeeded os) = zero_status refl
of_ending (ending.Refused u code) = three refl
of_ending (ending.Faulty u fault) = three refl
of_ending (ending.Circular us) = three refl

pub of_run : (named : ℕ → Option (List ℕ)) (name : List ℕ) (e : Result Ending RunFault) (r : Report)
    → SaysRun named name e r → ¬ (r.status ≡ 4)
of_run named name (Ok e) r says = λ f. of_ending e (sym says.1 ∙ f)
of_run named name (Err (run.Provider k)) r says = same_status r _ says (seven refl)
of_run named name (Err run.OutOfMemory) r says = absurd says
