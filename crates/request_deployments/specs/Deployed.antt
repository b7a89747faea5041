-- How a request of words comes out.
use Rattle.std.specs.Prelude.{◌≡◌, ◌⊎◌, ℕ, Bool, List, Option, IfOk, vec_items}
use Rattle.std.specs.declared.alloc.Global.{Global}
use Rattle.std.specs.declared.vec.Vec.{Vec}
use Rattle.arm_edges.specs.Faults.{Rose}
use Rattle.arm_ids.specs.declared.id.Place.{Place}
use Rattle.command_reports.specs.Faults.{fault_report}
use Rattle.command_reports.specs.declared.faults.Fault.TheVariants.{Tree}
use Rattle.command_words.specs.Commands.{DeployRequest, deploy_asked}
use Rattle.command_words.specs.declared.command.Deploy.{Deploy}
use Rattle.provider_trait.specs.declared.call.Call.{Call}
use Rattle.read_backs.specs.Texts.{IsJsonText}
use Rattle.request_places.specs.Places.{place_of}
use Rattle.run_reports.specs.declared.outcome.Outcome.{Outcome}
use Rattle.seat_calls.specs.Called.{Kind}
use Rattle.seat_calls.specs.declared.seat.Seat.{Seat}
use Rattle.template_deployments.specs.Deploying.{AreReady, CameOut}
use Rattle.request_deployments.specs.Requested.{IsPlanOfBytes}
use Rattle.request_deployments.specs.Refused.{IsRefused}

-- the bytes of a template may be deployed by the seats
pub record MayDeployBytes {P : Type 0} (bytes : List ℕ) (seats : Vec (Seat P) Global) : Type 0 where
  pub text : IsJsonText bytes
  pub ready : AreReady (vec_items seats)

-- another fault than one of the tree is reported
abbrev pub IsUntroubled : Outcome → Type 0
IsUntroubled o = IfOk o.report (λ r. ¬ (r.status ≡ 4))

-- the tree's count of faults is unchanged, or it rose, and that is reported
abbrev pub TellsTree : ℕ → ℕ → Outcome → Type 0
TellsTree before now o =
    ((now ≡ before) × IsUntroubled o) ⊎ (Rose before now × IfOk o.report (λ r. r ≡ fault_report Tree))

abbrev pub place_in : DeployRequest → Place
place_in d = place_of d.subscription d.group d.name

module _ {P : Type 0} (may : Kind) (told : Bool) (faults : P → ℕ) (calls : P → List Call)
    (old new : Vec (Seat P) Global) (o : Outcome) where
  -- the request was refused, or what the bytes state was run
  abbrev pub HasDeployedBytes : Bool → (List ℕ → Option (List ℕ)) → List ℕ → Deploy → Type 0
  HasDeployedBytes tells file bytes d =
      CameOut may told faults calls old new o
      (IsRefused (record { told = tells; file = file }) (deploy_asked d) bytes)
      (IsPlanOfBytes (record { told = tells; file = file }) (deploy_asked d) bytes) (place_in (deploy_asked d))
