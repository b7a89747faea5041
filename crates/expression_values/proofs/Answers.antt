-- What is told of what always has a value, and of what is used.
use Rattle.std.proofs.Common.{◌≡◌, Option, Some, None, refl, ap, sym, ◌∙◌}
use Rattle.arm_value.specs.Json.{Json}
use Rattle.arm_env.specs.Reading.{done, ask}
use Rattle.arm_env.specs.Knowledge.{Known, known, absent, missing, Told, value, no_value, waits, finished, by_entry, told, and_then}
use Rattle.arm_env.specs.Look.{Look, Fact, Looking}
use Rattle.arm_env.specs.Part.{kept}
use Rattle.arm_env.specs.Held.{Held, capped, forced}
use Rattle.arm_env.specs.Answer.{outcome_told}
use Rattle.arm_env.proofs.Answers.{told-done, told-continued, told-both, told-capped, told-held_value, told-plain}
use Rattle.expression_values.specs.Meaning.{used, outcome}

module _ (p : Look → Known Fact) where
  outcome-entry : {A : Type 0} (c : Look) (k : Option Fact → Told Look A)
      (g : Option Fact → Told Look (Option A)) (e : Known Fact)
      → ((v : Option Fact) → g v ≡ outcome_told (k v))
      → by_entry c g e ≡ outcome_told (by_entry c k e)
  outcome-entry c k g (known j) h = h (Some j)
  outcome-entry c k g absent h = h None
  outcome-entry c k g missing h = refl

  outcome-done : {A : Type 0} (o : Option A)
      → finished {C = Look} (Some o) ≡ outcome_told (finished {C = Look} o)
  outcome-done (Some x) = refl
  outcome-done None = refl

  pub told-outcome : {A : Type 0} (r : Looking A) → told p (outcome r) ≡ outcome_told (told p r)
  unfolding told outcome
  told-outcome (done o) = outcome-done o
  told-outcome (ask c k) =
      outcome-entry c (λ v. told p (k v)) (λ v. told p (outcome (k v))) (p c)
      (λ v. told-outcome (k v))

  used_next : (t : Told Look Held)
      → and_then (and_then t (λ h. told p (forced h))) (λ j. finished (kept j))
      ≡ and_then t (λ h. told p (capped (forced h)))
  used_next (value h) = sym (told-capped p (forced h))
  used_next no_value = refl
  used_next (waits c) = refl

  pub told-used : (o : Looking Held)
      → told p (used o) ≡ and_then (told p o) (λ h. told p (capped (forced h)))
  unfolding used
  told-used o = told-capped p _
      ∙ ap (λ t. and_then t (λ j. finished (kept j))) (told-continued p o forced)
      ∙ used_next (told p o)

pub ruleset answers = (
  told-done,
  told-continued,
  told-both,
  told-outcome,
  told-capped,
  told-held_value,
  told-plain,
  told-used,
)
