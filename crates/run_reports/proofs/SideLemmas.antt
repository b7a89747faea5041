-- What was run of seats was run of what their providers have counted and reported.
use Rattle.std.proofs.Common.{◌≡◌, ◌<◌, ◌≤◌, ℕ, Bool, List, length, sym, subst, ◌∙◌, get_or}
use Rattle.std.proofs.lemmas.List.{get_or-map, length-map}
use Rattle.dealer_trait.specs.declared.dealer_step.DealerStep.{DealerStep}
use Rattle.driver_loop.specs.Actions.{dones_of}
use Rattle.provider_trait.specs.declared.call.Call.{Call}
use Rattle.seat_calls.specs.Called.{Kind}
use Rattle.seat_calls.specs.Dones.{Made, of}
use Rattle.seat_calls.specs.declared.done.Done.{Done}
use Rattle.seat_calls.specs.declared.seat.Seat.{Seat}
use Rattle.deployment_runs.specs.Runs.{HasRun}
use Rattle.deployment_runs.proofs.GivenLemmas.{one_of}
use Rattle.run_reports.specs.Sides.{ProviderSide, MadeCalls, side, sides}

module _ {P : Type 0} (may : Kind) (tells : Bool) (calls : P → List Call) (faults : P → ℕ) where
  side_made : (p q : Seat P) (dones : List Done) → Made may tells calls faults p.provider q.provider dones
      → MadeCalls may tells (side faults calls p).provider (side faults calls q).provider dones
  side_made p q dones m = record { report = m.report; kept = m.kept; rose = m.rose; fits = m.fits }

  pub side_at : (ss : List (Seat P)) (k : ℕ) (d : Seat ProviderSide) (s : Seat P) → k < length ss
      → side faults calls (get_or ss k s) ≡ get_or (sides faults calls ss) k d
  side_at ss k d s low = sym (get_or-map (side faults calls) ss k s d low)

  pub as_many : (ss : List (Seat P)) → length (sides faults calls ss) ≡ length ss
  as_many ss = length-map ss (side faults calls)

  pub sides_ran : (ss : List DealerStep) (old new : List (Seat P)) → HasRun (Made may tells calls faults) ss old new
      → HasRun (MadeCalls may tells) ss (sides faults calls old) (sides faults calls new)
  sides_ran ss old new r = record {
    course = r.course;
    steps_are = r.steps_are;
    length_same = as_many new ∙ r.length_same ∙ sym (as_many old);
    calls = λ k low s t.
        let there = below k low in
        let a = one_of old k there in
        subst (λ (q : Seat ProviderSide).
        MadeCalls may tells (get_or (sides faults calls old) k s).provider q.provider (of k (dones_of r.course)))
        (side_at new k t a (subst (λ (n : ℕ). k < n) (sym r.length_same) there))
        (subst (λ (q : Seat ProviderSide).
        MadeCalls may tells q.provider (side faults calls (get_or new k a)).provider (of k (dones_of r.course)))
        (side_at old k s a there)
        (side_made (get_or old k a) (get_or new k a) (of k (dones_of r.course)) (r.calls k there a a)));
    begun = λ k low. r.begun k (below k low);
    one_at_a_time = λ k low. r.one_at_a_time k (below k low);
    others = λ k high. r.others k (subst (λ (n : ℕ). n ≤ k) (as_many old) high);
    answered = r.answered;
    calm = r.calm;
    none = r.none;
  }
    where
      below : (k : ℕ) → k < length (sides faults calls old) → k < length old
      below k low = subst (λ (n : ℕ). k < n) (as_many old) low
