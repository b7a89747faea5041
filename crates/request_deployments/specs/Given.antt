-- How a request comes out whose values are known.
use Rattle.std.specs.Prelude.{◌≡◌, ◌⊎◌, ℕ, Bool, List, [], Some, None}
use Rattle.std.specs.declared.alloc.Global.{Global}
use Rattle.std.specs.declared.vec.Vec.{Vec}
use Rattle.arm_ids.specs.declared.id.Place.{Place}
use Rattle.arm_value.specs.Json.{Json}
use Rattle.command_refusals.specs.Requests.{name_report}
use Rattle.command_reports.specs.declared.report.Report.{Report}
use Rattle.command_words.specs.Commands.{DeployRequest, deploy_asked}
use Rattle.command_words.specs.declared.command.Deploy.{Deploy}
use Rattle.deploy_histories.specs.Planned.{Planned}
use Rattle.deployment_requests.specs.Requests.{Request, IsPlanBy}
use Rattle.provider_trait.specs.declared.call.Call.{Call}
use Rattle.read_backs.specs.Texts.{IsJsonText, IsReadBack}
use Rattle.request_names.specs.Names.{bad_name}
use Rattle.run_reports.specs.declared.outcome.Outcome.{Outcome}
use Rattle.seat_calls.specs.Called.{Kind}
use Rattle.seat_calls.specs.declared.seat.Seat.{Seat}
use Rattle.template_deployments.specs.Deploying.{MayDeploy, CameOut}
use Rattle.template_deployments.specs.Refusals.{IsRefusal}
use Rattle.template_parts.specs.declared.given.GivenValue.{GivenValue}
use Rattle.request_deployments.specs.Deployed.{place_in}

-- the bytes of a template may be deployed in the place
pub record MayDeployPlaced {P : Type 0} (bytes : List ℕ) (place : Place) (seats : Vec (Seat P) Global) : Type 0 where
  pub text : IsJsonText bytes
  pub may : MayDeploy place seats

-- these values are given, in this place and in the mode of the words, and nothing is held
abbrev pub request_with : DeployRequest → List GivenValue → Place → Request
request_with d given place = record { given = given; place = place; mode = d.mode; held = [] }

-- what is read back of the bytes is refused, or planned, for the request
pub record IsRefusedRead (bytes : List ℕ) (q : Request) (r : Report) : Type 0 where
  pub value : Json
  pub is_read : IsReadBack bytes value
  pub refused : IsRefusal value q r

pub record IsPlanRead (bytes : List ℕ) (q : Request) (x : Planned) : Type 0 where
  pub value : Json
  pub is_read : IsReadBack bytes value
  pub is_plan : IsPlanBy value q x

-- a name is outside its form
pub record IsBadName (d : DeployRequest) (r : Report) : Type 0 where
  pub name : List ℕ
  pub is_bad : bad_name d.group d.name d.subscription ≡ Some name
  pub report : r ≡ name_report name

-- the names are in form, and what is read back of the bytes is refused, or planned
pub record IsRefusedGiven (bytes : List ℕ) (d : DeployRequest) (given : List GivenValue) (r : Report) : Type 0 where
  pub in_form : bad_name d.group d.name d.subscription ≡ None
  pub refused : IsRefusedRead bytes (request_with d given (place_in d)) r

pub record IsPlanGiven (bytes : List ℕ) (d : DeployRequest) (given : List GivenValue) (x : Planned) : Type 0 where
  pub in_form : bad_name d.group d.name d.subscription ≡ None
  pub is_plan : IsPlanRead bytes (request_with d given (place_in d)) x

module _ {P : Type 0} (may : Kind) (told : Bool) (faults : P → ℕ) (calls : P → List Call)
    (old new : Vec (Seat P) Global) (o : Outcome) where
  abbrev pub HasDeployedPlaced : List ℕ → Deploy → List GivenValue → Place → Type 0
  HasDeployedPlaced bytes d given place =
      CameOut may told faults calls old new o (IsRefusedRead bytes (request_with (deploy_asked d) given place))
      (IsPlanRead bytes (request_with (deploy_asked d) given place)) place

  abbrev pub HasDeployedGiven : List ℕ → Deploy → List GivenValue → Type 0
  HasDeployedGiven bytes d given =
      CameOut may told faults calls old new o
      (λ q. IsBadName (deploy_asked d) q ⊎ IsRefusedGiven bytes (deploy_asked d) given q)
      (IsPlanGiven bytes (deploy_asked d) given) (place_in (deploy_asked d))
