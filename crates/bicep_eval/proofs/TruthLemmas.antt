-- `&&`, `||` and conditionals, by what is returned for their condition.
use Rattle.std.proofs.Common.{◌≡◌, Bool, true, false, Some, refl, ◌∙◌, subst}
use Rattle.std.proofs.Math.Bool.{beq}
use Rattle.std.specs.Prelude.{Result, Ok, Err}
use Rattle.arm_value.specs.Json.{Json, bool}
use Rattle.arm_value.specs.View.{json}
use Rattle.arm_value.specs.declared.value.Value.{Value}
use Rattle.function_numbers.specs.Kinds.{truth_of}
use Rattle.reading.specs.Reading.{pure}
use Rattle.reading.specs.Knowledge.{value, told}
use Rattle.deploy_cells.specs.Guarded.{Reads}
use Rattle.bicep_meaning.specs.Rows.{and_value, or_value, truth}
use Rattle.bicep_outcomes.specs.declared.stop.Stop.{Stop}
use Rattle.bicep_outcomes.specs.Outcomes.{Stops, Gives, Then, truth_alone}
use Rattle.bicep_outcomes.proofs.OutcomeLemmas.{told-done}
use Rattle.bicep_surroundings.specs.Sight.{Sight}
use Rattle.bicep_eval.specs.Values.{decided_by}
use Rattle.bicep_surroundings.proofs.ReadLemmas.{of_equal, truth_goes, truth_stops, truth_reads}

same_truth : (a b : Bool) → beq a b ≡ true → a ≡ b
same_truth true true e = refl
same_truth true false e = absurd cc
same_truth false true e = absurd cc
same_truth false false e = refl

module _ (s : Sight) where
  pub decided_goes : (given : Result Value Stop) (first : Bool) (x y : Reads Json)
      → Gives s.cell json given (told s.known x)
      → Then json (λ (t : Bool). t) truth_of given (Ok first)
      → told s.known (decided_by first x y) ≡ told s.known (truth y)
  unfolding and_value or_value
  decided_goes given true x y g h = truth_goes s.known s.cell given true x (truth y) (pure (bool false)) g h
  decided_goes given false x y g h = truth_goes s.known s.cell given false x (pure (bool true)) (truth y) g h

  -- with the second
  pub decided_second : (given other r : Result Value Stop) (first goes : Bool) (x y : Reads Json)
      → beq first goes ≡ true
      → Gives s.cell json given (told s.known x) → Then json (λ (t : Bool). t) truth_of given (Ok first)
      → Gives s.cell json other (told s.known y) → Then json json truth_alone other r
      → Gives s.cell json r (told s.known (decided_by goes x y))
  decided_second given other r first goes x y e g h k l =
      subst (λ (b : Bool). Gives s.cell json r (told s.known (decided_by b x y))) (same_truth first goes e)
      (of_equal s.known s.cell json r _ (told s.known (truth y)) (decided_goes given first x y g h)
      (truth_reads s.known s.cell other r y k l))

  -- with the first alone
  pub decided_first : (given : Result Value Stop) (first goes : Bool) (x y : Reads Json) → beq first goes ≡ false
      → Gives s.cell json given (told s.known x) → Then json (λ (t : Bool). t) truth_of given (Ok first)
      → told s.known (decided_by goes x y) ≡ value (bool first)
  unfolding and_value or_value
  decided_first given true true x y e g h = absurd cc
  decided_first given false false x y e g h = absurd cc
  decided_first given false true x y e g h =
      truth_goes s.known s.cell given false x (truth y) (pure (bool false)) g h
      ∙ told-done s.known (Some (bool false))
  decided_first given true false x y e g h =
      truth_goes s.known s.cell given true x (pure (bool true)) (truth y) g h ∙ told-done s.known (Some (bool true))

  -- the first has no truth value
  pub decided_stops : (given : Result Value Stop) (e : Stop) (goes : Bool) (x y : Reads Json)
      → Gives s.cell json given (told s.known x) → Then json (λ (t : Bool). t) truth_of given (Err e)
      → Stops s.cell e (told s.known (decided_by goes x y))
  unfolding and_value or_value
  decided_stops given e true x y g h = truth_stops s.known s.cell given e x (truth y) (pure (bool false)) g h
  decided_stops given e false x y g h = truth_stops s.known s.cell given e x (pure (bool true)) (truth y) g h
