-- What is asked of a deployment, and which plans are of it.
use Rattle.std.specs.Prelude.{◌≡◌, ℕ, List, None}
use Rattle.arm_ids.specs.Held.{HeldResource}
use Rattle.arm_ids.specs.declared.id.Place.{Place}
use Rattle.arm_value.specs.Json.{Json}
use Rattle.template_parts.specs.declared.given.GivenValue.{GivenValue}
use Rattle.template_parts.specs.declared.mode.Mode.{Mode}
use Rattle.template_parameters.specs.Binding.{BoundMeaning, bound, bind_fault}
use Rattle.template_tree.specs.Tree.{TemplateTree}
use Rattle.plan_cells.specs.Meaning.{Deployment}
use Rattle.plan_cells.specs.Resources.{header_in}
use Rattle.arm_template.specs.States.{States}
use Rattle.deploy_histories.specs.Planned.{Planned, IsPlanned}

-- the values that are given, where and in which mode it is deployed, and what is held before
pub record Request : Type 0 where
  pub given : List GivenValue
  pub place : Place
  pub mode : Mode
  pub held : List HeldResource

-- what the parameters of a template are bound to by the request
abbrev pub bound_in : Request → TemplateTree → List (List ℕ × BoundMeaning)
bound_in q t = bound q.given (header_in t).parameters

-- the template with the values of the request, in its place
abbrev pub deployment_in : Request → TemplateTree → Deployment
deployment_in q t = record { template = t; bound = bound_in q t; place = q.place }

-- the plan is that of the template for the request, which gives what the template's parameters take; its tasks are those
-- of what is known at the start
pub record IsPlanOf (q : Request) (t : TemplateTree) (x : Planned) : Type 0 where
  pub accepted : bind_fault q.given (header_in t).parameters ≡ None
  pub deployment : x.deployment ≡ deployment_in q t
  pub mode : x.mode ≡ q.mode
  pub held : x.held ≡ q.held
  pub is_planned : IsPlanned x

-- the plan is that of the template which the value states
pub record IsPlanBy (v : Json) (q : Request) (x : Planned) : Type 0 where
  pub template : TemplateTree
  pub states : States v template
  pub is_plan : IsPlanOf q template x
