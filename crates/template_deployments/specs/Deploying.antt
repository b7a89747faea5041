-- What comes of the deployment of a template.
use Rattle.std.specs.Prelude.{◌≡◌, ◌<◌, ◌≤◌, ℕ, Bool, List, [], length, Result, encode_utf8_all, vec_items}
use Rattle.std.specs.declared.alloc.AllocError.{AllocError}
use Rattle.std.specs.declared.alloc.Global.{Global}
use Rattle.std.specs.declared.vec.Vec.{Vec}
use Rattle.arm_ids.specs.Held.{HeldResource}
use Rattle.arm_ids.specs.declared.id.Place.{Place}
use Rattle.plan_boards.specs.Accepted.{IsAccepted}
use Rattle.arm_template.specs.States.{IsStated}
use Rattle.arm_value.specs.View.{json}
use Rattle.arm_value.specs.declared.value.Value.{Value}
use Rattle.command_reports.specs.declared.report.Report.{Report}
use Rattle.provider_trait.specs.declared.call.Call.{Call}
use Rattle.seat_calls.specs.Called.{Kind}
use Rattle.seat_calls.specs.declared.seat.Seat.{Seat}
use Rattle.deploy_histories.specs.Planned.{Planned}
use Rattle.deploy_core.specs.Names.{name_of}
use Rattle.deployment_requests.specs.Requests.{IsPlanOf, IsPlanBy}
use Rattle.history_holdings.specs.Opening.{IsPlainPlace}
use Rattle.plan_boards.specs.Planned.{planned_by}
use Rattle.plan_boards.specs.Plan.{Plan}
use Rattle.plan_boards.specs.Tells.{tells}
use Rattle.plan_boards.specs.Titles.{title}
use Rattle.run_reports.specs.Sides.{sides}
use Rattle.run_reports.specs.Deployments.{Surroundings}
use Rattle.run_reports.specs.Reported.{surroundings}
use Rattle.run_reports.specs.declared.outcome.Outcome.{Outcome}
use Rattle.template_deployments.specs.Came.{Terms, Came}
use Rattle.template_parts.specs.declared.given.BoundParameter.{BoundParameter}
use Rattle.template_tree.specs.View.{template_tree}
use Rattle.template_tree.specs.declared.resource.Template.{Template}
use Rattle.worker_crew.specs.Driven.{HasNoJobs}
use Rattle.template_deployments.specs.Requests.{request_of, IsBoundTo}
use Rattle.template_deployments.specs.Refusals.{IsUnplanned, IsUnrun, IsRefusal}
use Rattle.template_deployments.specs.declared.asked.Asked.{Asked}

-- 1 to 4,294,967,295 seats, of which none has a job
pub record AreReady {P : Type 0} (seats : List (Seat P)) : Type 0 where
  pub few : (0 < length seats) × (length seats ≤ 4294967295)
  pub free : HasNoJobs seats

-- a deployment may be made in the place by the seats: neither the subscription nor the group has a slash
pub record MayDeploy {P : Type 0} (place : Place) (seats : Vec (Seat P) Global) : Type 0 where
  pub is_plain : IsPlainPlace place
  pub ready : AreReady (vec_items seats)

-- so may one of a plan over what is held
pub record MayRun {P : Type 0} (p : Plan) (held : List HeldResource) (seats : Vec (Seat P) Global) : Type 0 where
  pub accepted : IsAccepted p held
  pub may : MayDeploy p.place.now seats

-- one of a template
pub record MayDeployRead {P : Type 0} (t : Template) (a : Asked) (seats : Vec (Seat P) Global) : Type 0 where
  pub stated : IsStated (template_tree t)
  pub may : MayDeploy a.place.now seats

-- and one of a template whose parameters are bound so
pub record MayDeployBound {P : Type 0} (t : Template) (b : List BoundParameter) (a : Asked)
    (seats : Vec (Seat P) Global) : Type 0 where
  pub bound : IsBoundTo (request_of a) (template_tree t) b
  pub read : MayDeployRead t a seats

-- the terms of the deployment of a template: its name is that of the place
abbrev pub terms : (Report → Type 0) → (Planned → Type 0) → Place → Terms
terms refusal source place = record {
  IsRefusal = refusal;
  IsSource = source;
  named = λ x. name_of title x;
  name = encode_utf8_all place.deployment;
}

module _ {P : Type 0} (may : Kind) (told : Bool) (faults : P → ℕ) (calls : P → List Call)
    (old new : Vec (Seat P) Global) (o : Outcome) where
  abbrev pub around : Surroundings
  around = surroundings may told tells (sides faults calls (vec_items old)) (sides faults calls (vec_items new))

  -- so the deployment came out, and no seat has a job
  pub record CameOut (refusal : Report → Type 0) (source : Planned → Type 0) (place : Place) : Type 0 where
    pub ready : AreReady (vec_items new)
    pub came : Came (terms refusal source place) around o

  -- the plan was run
  abbrev pub HasRun : Plan → List HeldResource → Type 0
  HasRun p held = CameOut (λ q. ⊥) (λ x. x ≡ planned_by p held) p.place.now

  -- a template with values for its parameters has no plan, or was run
  abbrev pub HasDeployedBound : Template → Asked → Type 0
  HasDeployedBound t a =
      CameOut (IsUnplanned (request_of a) (template_tree t)) (IsPlanOf (request_of a) (template_tree t)) a.place.now

  -- a template was refused or run
  abbrev pub HasDeployedRead : Template → Asked → Type 0
  HasDeployedRead t a =
      CameOut (IsUnrun (request_of a) (template_tree t)) (IsPlanOf (request_of a) (template_tree t)) a.place.now

  -- the deployment of what a value states was refused, or its template was run
  abbrev pub HasDeployed : Value → Asked → Type 0
  HasDeployed v a = CameOut (IsRefusal (json v) (request_of a)) (IsPlanBy (json v) (request_of a)) a.place.now

-- it was refused with this report, and nothing has happened
pub record IsRefusedWith (r : Result Report AllocError) (o : Outcome) : Type 0 where
  pub report : o.report ≡ r
  pub nothing : o.history.items ≡ []
