-- Arrays of what loops over trees gather.
use Rattle.reading.specs.Knowledge as knowledge
use Rattle.reading.specs.Knowledge.{told, finished, and_then}
use Rattle.std.proofs.Common.{◌≡◌, ℕ, List, Option, Some, None, refl, ap, ◌∙◌}
use Rattle.arm_value.specs.Json.{Json, array, row}
use Rattle.reading.specs.Reading.{pure, continued}
use Rattle.reading.specs.Knowledge.{Known}
use Rattle.arm_env.specs.Look.{Look, Fact, Looking, Surroundings, all}
use Rattle.arm_env.specs.Part.{kept}
use Rattle.arm_env.specs.Held.{capped}
use Rattle.arm_env.specs.Answer.{outcome_told, gathered, Stops}
use Rattle.arm_env.specs.declared.stop.Stop.{Stop}
use Rattle.arm_eval.specs.Trees.{Copy, within, array_of}
use Rattle.arm_eval.specs.Words.{kept_array}
use Rattle.arm_env.proofs.Answers.{told-done, told-continued, told-capped, stops}
use Rattle.arm_env.proofs.Turns.{all_given, all_stop}

-- what the input of a loop gives at an index
abbrev pub turn_at : Copy → Surroundings → ℕ → Looking Json
turn_at c here i = c.input (within c.name i here)

module _ (p : Look → Known Fact) where
  kept_next : (o : Option (List Json))
      → and_then (and_then (finished o) (λ vs. told p (pure (array (row vs))))) (λ j. finished (kept j))
      ≡ finished (kept_array o)
  kept_next (Some vs) = ap (λ t. and_then t (λ j. finished (kept j))) (told-done p (Some (array (row vs))))
  kept_next None = refl

  -- the array of what was gathered
  pub array_given : (os : List (Looking Json)) (o : Option (List Json))
      → outcome_told (gathered (λ xs. xs) p os) ≡ knowledge.value o → told p (array_of os) ≡ finished (kept_array o)
  array_given os o e =
      told-capped p (continued (all os) (λ vs. pure (array (row vs))))
      ∙ ap (λ t. and_then t (λ j. finished (kept j))) (told-continued p (all os) (λ vs. pure (array (row vs)))
      ∙ ap (λ t. and_then t (λ vs. told p (pure (array (row vs))))) (all_given p os o e))
      ∙ kept_next o

  pub array_stops : (s : Stop) (os : List (Looking Json)) → Stops s (outcome_told (gathered (λ xs. xs) p os))
      → Stops s (told p (array_of os))
  unfolding capped
  array_stops s os h =
      stops s p (continued (all os) (λ vs. pure (array (row vs)))) _ (stops s p (all os) _ (all_stop p s os h))
