-- Why the deployment of a template is refused, and what is reported of it.
use Rattle.std.specs.Prelude.{◌≡◌, ◌⊎◌, None}
use Rattle.arm_value.specs.Json.{Json}
use Rattle.arm_template.specs.States as template
use Rattle.arm_template.specs.States.{States}
use Rattle.template_parameters.specs.Binding as binding
use Rattle.template_parameters.specs.Binding.{bind_fault}
use Rattle.template_parts.specs.declared.fault.TemplateFault.{TemplateFault}
use Rattle.template_parts.specs.declared.fault.BindFault.{BindFault}
use Rattle.template_tree.specs.Tree.{TemplateTree}
use Rattle.plan_cells.specs.Resources.{header_in}
use Rattle.plan_faults.specs.Faults.{IsFault}
use Rattle.plan_faults.specs.declared.fault.PlanFault.{PlanFault}
use Rattle.command_refusals.specs.Templates.{template_report, bind_report, plan_report}
use Rattle.command_reports.specs.declared.report.Report.{Report}
use Rattle.deployment_requests.specs.Requests.{Request, deployment_in}

-- the report is that of the fault that a value has which states no template
abbrev pub IsNoTemplate : Json → Report → Type 0
IsNoTemplate v r = (f : TemplateFault) × (template.IsFaultOf v f × (r ≡ template_report f))

-- that of values which do not suit the parameters of the template
abbrev pub IsUnbound : Request → TemplateTree → Report → Type 0
IsUnbound q t r = (f : BindFault)
    × (binding.IsFaultOf (bind_fault q.given (header_in t).parameters) f × (r ≡ bind_report f))

-- that of a reason why the template, with values that suit it, has no plan
pub record IsUnplanned (q : Request) (t : TemplateTree) (r : Report) : Type 0 where
  pub accepted : bind_fault q.given (header_in t).parameters ≡ None
  pub fault : PlanFault
  pub holds : IsFault (deployment_in q t) q.mode q.held fault
  pub report : r ≡ plan_report fault

-- why the template is not run
abbrev pub IsUnrun : Request → TemplateTree → Report → Type 0
IsUnrun q t r = IsUnbound q t r ⊎ IsUnplanned q t r

-- that of a template which the value states
abbrev pub IsUnrunBy : Json → Request → Report → Type 0
IsUnrunBy v q r = (t : TemplateTree) × (States v t × IsUnrun q t r)

-- the report is that of a true reason for which the deployment of what a value states is refused
abbrev pub IsRefusal : Json → Request → Report → Type 0
IsRefusal v q r = IsNoTemplate v r ⊎ IsUnrunBy v q r
