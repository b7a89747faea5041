-- The turns of an output's loop.
use Rattle.std.proofs.Common.{◌≡◌, ◌<◌, ◌≤◌, ◌+◌, ◌++◌, ◌∷◌, [], ℕ, zero, suc, List, map, take, length, get_or}
use Rattle.std.proofs.Common.{Option, Some, refl, sym, ap, ◌∙◌, subst, arith, add-one}
use Rattle.std.proofs.lemmas.List.FromFn.{length-range_with_len, get_or-range_with_len}
use Rattle.std.specs.List.{range_with_len}
use Rattle.arm_value.specs.Json.{Json}
use Rattle.reading.specs.Knowledge.{Known, value, told, finished}
use Rattle.arm_env.specs.Look.{Look, Fact, Looking, Surroundings}
use Rattle.arm_env.specs.Answer.{gathered, outcome_told, with_last, Stops}
use Rattle.arm_env.specs.declared.stop.Stop.{Stop}
use Rattle.arm_env.proofs.Gather.{gathered-nil}
use Rattle.arm_env.proofs.Turns.{turned, turn_stops, all_turned}
use Rattle.arm_eval.specs.Outputs.{input_at, inputs}
use Rattle.arm_eval.proofs.RoundLemmas.{below}

inputs-from : (j : Json) (here : Surroundings) (i n : ℕ)
    → inputs j here i n ≡ map (input_at j here) (range_with_len i n)
inputs-from j here i zero = refl
inputs-from j here i (suc n) = rw add-one (ap (λ os. input_at j here i ∷ os) (inputs-from j here (suc i) n))

module _ (p : Look → Known Fact) (j : Json) (here : Surroundings) where
  at_index : (n i : ℕ) → i < n → i ≡ get_or (below n) i i
  at_index n i l = omega (arith, get_or-range_with_len 0 n i i l)

  in_range : (n i : ℕ) → i < n → i < length (below n)
  in_range n i l = omega (arith, l, length-range_with_len 0 n)

  pub no_input_yet : (o : Option (List Json)) → o ≡ Some []
      → gathered (λ vs. vs) p (map (input_at j here) []) ≡ finished o
  no_input_yet o e = gathered-nil Json p (List Json) (λ vs. vs) ∙ ap finished (sym e)

  pub input_turn : (n i : ℕ) (o : Option (List Json)) (a : Option Json) → i < n
      → gathered (λ vs. vs) p (map (input_at j here) (take i (below n))) ≡ finished o
      → outcome_told (told p (input_at j here i)) ≡ value a
      → gathered (λ vs. vs) p (map (input_at j here) (take (i + 1) (below n))) ≡ finished (with_last o a)
  input_turn n i o a l g found = turned Json p (List Json) (λ vs. vs) ℕ (input_at j here) (λ xs x. xs ++ x ∷ [])
      (λ xs x. refl) (below n) i i o a (in_range n i l) (at_index n i l) g found

  pub input_stops : (s : Stop) (n i : ℕ) (o : Option (List Json)) → i < n
      → gathered (λ vs. vs) p (map (input_at j here) (take i (below n))) ≡ finished o
      → Stops s (outcome_told (told p (input_at j here i)))
      → Stops s (outcome_told (gathered (λ vs. vs) p (inputs j here 0 n)))
  input_stops s n i o l g h =
      let P : List (Looking Json) → Type 0 = λ os. Stops s (outcome_told (gathered (λ vs. vs) p os)) in
      subst P (sym (inputs-from j here 0 n))
      (turn_stops Json p (List Json) (λ vs. vs) ℕ (input_at j here) s (below n) i i o (in_range n i l)
      (at_index n i l) g h)

  pub all_inputs : (n i : ℕ) (o : Option (List Json)) → n ≤ i
      → gathered (λ vs. vs) p (map (input_at j here) (take i (below n))) ≡ finished o
      → outcome_told (gathered (λ vs. vs) p (inputs j here 0 n)) ≡ value o
  all_inputs n i o l g =
      ap (λ os. outcome_told (gathered (λ vs. vs) p os)) (inputs-from j here 0 n)
      ∙ all_turned Json p (List Json) (λ vs. vs) ℕ (input_at j here) (below n) i o
      (omega (arith, l, length-range_with_len 0 n)) g
