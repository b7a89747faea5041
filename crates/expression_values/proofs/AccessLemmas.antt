-- What is seen where an access looks, and what is shown of a nested deployment.
use Rattle.std.proofs.Common.{◌≡◌, ◌∷◌, [], List, codes, Bool, true, false, Some, None, Result, Ok}
use Rattle.std.proofs.Common.{Err, ap, ◌∙◌, nat_le}
use Rattle.std.specs.Str.{chars}
use Rattle.std.specs.Prelude.{if◌then◌else◌}
use Rattle.arm_value.specs.Json.{Json, object, pairs, Member, put, nesting}
use Rattle.arm_env.specs.Reading.{pure, continued}
use Rattle.arm_env.specs.Knowledge.{Known, told, value, finished}
use Rattle.arm_env.specs.Look.{Look, Fact, Looking}
use Rattle.arm_env.specs.Part.{kept}
use Rattle.arm_env.specs.Object.{object_of}
use Rattle.arm_env.specs.Answer.{Sees}
use Rattle.arm_env.specs.declared.stop.Stop.{Stop}
use Rattle.arm_env.proofs.Answers.{told-done, goes, stops}
use Rattle.arm_env.proofs.Words.{word_outputs}

kept_by : (b : Bool) (j v : Json) → finished {C = Look} (if b then Some j else None) ≡ value v → v ≡ j
kept_by true j v e = cc
kept_by false j v e = absurd cc

pub kept_same : (j v : Json) → finished {C = Look} (kept j) ≡ value v → v ≡ j
kept_same j v e = kept_by (nat_le (nesting j) 100) j v e

pub shown_put : (j : Json) (ms : List Member) → ms ≡ put (chars (codes "outputs")) j []
    → object (pairs ms) ≡ object_of ((codes "outputs", j) ∷ [])
shown_put j ms e = ap (λ ms. object (pairs ms)) (e ∙ (λ i. put (word_outputs i) j []))

-- what goes on with a value sees as much
pub sees_then : {A B : Type 0} (p : Look → Known Fact) (r : Result (Unit {0}) Stop) (o : Looking A)
    (f : A → B) → Sees r (told p o) → Sees r (told p (continued o (λ x. pure (f x))))
sees_then p (Ok u) o f h =
    (f h.0, goes p o (λ x. pure (f x)) h.0 h.1 ∙ told-done p (Some (f h.0)))
sees_then p (Err s) o f h = stops s p o (λ x. pure (f x)) h

pub forced_plain : (p : Look → Known Fact) (j : Json) → (x : Json) × (told p (pure j) ≡ value x)
forced_plain p j = (j, told-done p (Some j))
