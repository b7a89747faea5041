-- What is told of a loop of a name.
use Rattle.std.proofs.Common.{◌≡◌, ℕ, List, Option, Some, None, option_map, refl, sym, ap, ◌∙◌, subst}
use Rattle.arm_value.specs.Json.{Json, Member}
use Rattle.reading.specs.Reading.{pure, continued}
use Rattle.reading.specs.Knowledge as knowledge
use Rattle.reading.specs.Knowledge.{Known, told, finished, and_then}
use Rattle.arm_env.specs.Look.{Look, Fact, Looking, Surroundings}
use Rattle.arm_env.specs.Answer.{gathered, outcome_told, Stops}
use Rattle.arm_env.specs.declared.stop.Stop.{Stop}
use Rattle.arm_env.proofs.Answers.{told-done, told-continued, goes, stops}
use Rattle.arm_eval.specs.Trees.{Copy, copied, counted, counting, turns}
use Rattle.arm_eval.specs.Words.{kept_array}
use Rattle.arm_eval.proofs.ObjectLemmas.{counted_given, counted_stops}

module _ (p : Look → Known Fact) (c : Copy) (here : Surroundings) where
  abbrev of_loop : Looking Json
  of_loop = continued (copied here (Some c)) (λ m. pure m.1)

  array_in : (o : Option Json)
      → and_then {A = Member} (finished (option_map (λ v. (c.name, v)) o)) (λ m. told p (pure m.1)) ≡ finished o
  array_in (Some v) = told-done p (Some v)
  array_in None = refl

  pub loop_uncounted : (s : Stop) → Stops s (told p (counting (c.count here))) → Stops s (told p of_loop)
  loop_uncounted s h =
      stops s p (copied here (Some c)) (λ m. pure m.1) (stops s p (counting (c.count here)) (counted c here) h)

  pub loop_stops : (s : Stop) (n : ℕ) → told p (counting (c.count here)) ≡ knowledge.value n
      → Stops s (outcome_told (gathered (λ vs. vs) p (turns c here 0 n))) → Stops s (told p of_loop)
  loop_stops s n e h =
      let P : knowledge.Told Look Member → Type 0 = λ t. Stops s t in
      stops s p (copied here (Some c)) (λ m. pure m.1)
      (subst P (sym (goes p (counting (c.count here)) (counted c here) n e)) (counted_stops p s c here n h))

  pub loop_told : (n : ℕ) (o : Option (List Json)) → told p (counting (c.count here)) ≡ knowledge.value n
      → outcome_told (gathered (λ vs. vs) p (turns c here 0 n)) ≡ knowledge.value o
      → told p of_loop ≡ finished (kept_array o)
  loop_told n o e given =
      told-continued p (copied here (Some c)) (λ m. pure m.1)
      ∙ ap (λ t. and_then t (λ m. told p (pure m.1))) (goes p (counting (c.count here)) (counted c here) n e
      ∙ counted_given p c here n o given)
      ∙ array_in (kept_array o)
