-- What a board's run has done, by the sides of the seats.
use Rattle.std.proofs.Common.{◌≡◌, ◌<◌, ℕ, Bool, List, [], length, map, Option, Result, Ok, Err, refl, sym, ap}
use Rattle.std.proofs.Common.{subst, ◌∙◌, get_or}
use Rattle.std.specs.Prelude.{IfOk}
use Rattle.std.specs.declared.alloc.AllocError.{AllocError}
use Rattle.arm_edges.specs.Faults.{Rose}
use Rattle.command_reports.specs.declared.report.Report.{Report}
use Rattle.provider_trait.specs.declared.call.Call.{Call}
use Rattle.seat_calls.specs.Called.{Kind}
use Rattle.seat_calls.specs.Dones.{Made}
use Rattle.seat_calls.specs.declared.seat.Seat.{Seat}
use Rattle.deploy_histories.specs.Planned.{Planned}
use Rattle.deploy_histories.specs.Events.{Event, at_opening, progress}
use Rattle.deploy_histories.specs.Legal.{IsLegal, HasEnded}
use Rattle.deploy_histories.specs.Outcome.{AreGiven}
use Rattle.task_standings.specs.Failures.{Tells}
use Rattle.deploy_core.specs.Endings.{IsTrueEnding}
use Rattle.deploy_core.specs.Past.{event_of}
use Rattle.deploy_core.specs.Names.{name_of}
use Rattle.deploy_core.specs.Steps.{steps_of, until_crash}
use Rattle.deploy_cells.specs.Cells.{Position}
use Rattle.deployment_reports.specs.Sayings.{Says}
use Rattle.deployment_reports.specs.Reports.{status_of}
use Rattle.command_reports.specs.Faults.{fault_report}
use Rattle.command_reports.specs.declared.faults.Fault.TheVariants as fault
use Rattle.deploy_core.specs.declared.ending.Ending.{Ending}
use Rattle.deployment_runs.specs.Runs.{HasRun, by_seat}
use Rattle.deployment_runs.specs.declared.fault.RunFault.{RunFault}
use Rattle.deployment_runs.specs.declared.fault.RunFault.TheVariants.{Provider, OutOfMemory}
use Rattle.deployment_runs.proofs.GivenLemmas.{one_of}
use Rattle.run_reports.specs.Sides.{ProviderSide, sides}
use Rattle.run_reports.specs.declared.outcome.Outcome.{Outcome}
use Rattle.run_reports.specs.Reported.{SaysRun, HasFailed, IsReported, surroundings}
use Rattle.run_reports.proofs.SideLemmas.{sides_ran, side_at, as_many}

module _ {P : Type 0} (may : Kind) (tells : Bool) (calls : P → List Call) (faults : P → ℕ) (told : Tells)
    (old new : List (Seat P)) (x : Planned) (h : List Event) (ending : Result Ending RunFault) where
  -- the count of faults of a seat's provider rose
  failed_by : length new ≡ length old → (k : ℕ) → (k < length old)
      × ((s : Seat P) (t : Seat P) → Rose (faults (get_or old k s).provider) (faults (get_or new k t).provider))
      → HasFailed (sides faults calls old) (sides faults calls new) k
  failed_by same k f =
      let a = one_of old k f.0 in (
        subst (λ (n : ℕ). k < n) (sym (as_many may tells calls faults old)) f.0,
        λ s t.
            subst
            (λ (q : Seat ProviderSide). Rose (get_or (sides faults calls old) k s).provider.faults q.provider.faults)
            (side_at may tells calls faults new k t a (subst (λ (n : ℕ). k < n) (sym same) f.0))
            (subst (λ (q : Seat ProviderSide). Rose q.provider.faults (faults (get_or new k a).provider))
            (side_at may tells calls faults old k s a f.0) (f.1 a a)),
      )

  pub reported_run : (named : ℕ → Option (List ℕ)) (name : List ℕ) (o : Outcome) → map event_of o.history.items ≡ h
      → IsLegal x h → HasRun (Made may tells calls faults) (steps_of x h) old new → AreGiven may x at_opening h
      → ((e : Ending) → ending ≡ Ok e → HasEnded x (progress h) × IsTrueEnding told x (progress h) e)
      → ((k : ℕ) → ending ≡ by_seat k → (k < length old)
      × ((s : Seat P) (t : Seat P) → Rose (faults (get_or old k s).provider) (faults (get_or new k t).provider)))
      → IfOk o.report (SaysRun named name ending)
      → IsReported (surroundings may tells told (sides faults calls old) (sides faults calls new)) named name x o
  reported_run named name o handed legal ran given ended failed says = record {
    run = record { planned = x; history = h; ending = ending };
    planned = refl;
    ran = record {
      order = legal;
      ended = λ e i. (ended e i).0;
      failure = λ e i. (ended e i).1;
      calls = sides_ran may tells calls faults (steps_of x h) old new ran;
      given = given;
    };
    handed = handed;
    says = says;
    blamed = λ k e. failed_by ran.length_same k (failed k e);
  }

-- what is so of the ending that there is
pub only_ended : (f : Ending → Type 0) (e : Ending) → f e → (d : Ending)
    → ◌≡◌ {A = Result Ending RunFault} (Ok e) (Ok d) → f d
only_ended f e h d i = let g : ◌≡◌ {A = Result Ending RunFault} (Ok e) (Ok d) = i in let j : e ≡ d = cc in subst f j h

pub not_ended : (f : Ending → Type 0) (q : RunFault) (d : Ending) → ◌≡◌ {A = Result Ending RunFault} (Err q) (Ok d)
    → f d
not_ended f q d i = let g : ◌≡◌ {A = Result Ending RunFault} (Err q) (Ok d) = i in absurd (cc)

pub never_by : (e : Ending) (k : ℕ) (A : Type 0) → ◌≡◌ {A = Result Ending RunFault} (Ok e) (by_seat k) → A
never_by e k A i = let g : ◌≡◌ {A = Result Ending RunFault} (Ok e) (Err (Provider k)) = i in absurd (cc)

pub memory_by : (k : ℕ) (A : Type 0) → ◌≡◌ {A = Result Ending RunFault} (Err OutOfMemory) (by_seat k) → A
memory_by k A i =
    let g : ◌≡◌ {A = Result Ending RunFault} (Err OutOfMemory) (Err (Provider k)) = i in absurd (cc)

-- what is said of an ending, where the plan is unchanged
pub says_ended : (titled : Planned → Position → List ℕ) (x y : Planned) (name : List ℕ) (e : Ending)
    (r s : Result Report AllocError) → y ≡ x → s ≡ r → IfOk r (λ p. Says (name_of titled y) name e p.text)
    → IfOk r (λ p. p.status ≡ status_of e) → IfOk s (SaysRun (name_of titled x) name (Ok e))
says_ended titled x y name e (Ok p) s same is a b =
    subst (λ (q : Result Report AllocError). IfOk q (SaysRun (name_of titled x) name (Ok e))) (sym is)
    (subst (λ (z : Planned). Says (name_of titled z) name e p.text) same a, b)
says_ended titled x y name e (Err f) s same is a b =
    subst (λ (q : Result Report AllocError). IfOk q (SaysRun (name_of titled x) name (Ok e))) (sym is) tt

-- what is said of a provider that failed
pub says_failed : (named : ℕ → Option (List ℕ)) (name : List ℕ) (k : ℕ) (r s : Result Report AllocError) → s ≡ r
    → IfOk r (λ p. p ≡ fault_report (fault.Provider k)) → IfOk s (SaysRun named name (Err (Provider k)))
says_failed named name k r s is a =
    subst (λ (q : Result Report AllocError). IfOk q (SaysRun named name (Err (Provider k)))) (sym is) a

-- nothing had happened before the run, so there was no crash
pub none_before : (h g : List Event) → until_crash h ≡ until_crash g → g ≡ [] → until_crash h ≡ []
none_before h g e f = e ∙ ap until_crash f

-- the same failure
pub failed_as : (f q : RunFault) (k : ℕ) → f ≡ q → ◌≡◌ {A = Result Ending RunFault} (Err q) (by_seat k)
    → ◌≡◌ {A = Result Ending RunFault} (Err f) (by_seat k)
failed_as f q k e i = ap {B = Result Ending RunFault} (λ (r : RunFault). Err r) e ∙ i

-- nothing is said where memory was out
pub says_nothing : (f : Report → Type 0) (r : Result Report AllocError) (e : AllocError) → r ≡ Err e → IfOk r f
says_nothing f r e is = subst (λ (q : Result Report AllocError). IfOk q f) (sym is) tt
