-- What is told of readings that are made of others.
use Rattle.std.proofs.Common.{◌≡◌, List, Option, Some, None, option_map, Result, Ok, Err, refl, sym, ap, ◌∙◌}
use Rattle.arm_value.specs.Json.{Json}
use Rattle.reading.specs.Reading.{done, pure, continued, both}
use Rattle.reading.specs.Knowledge.{Known, known, absent, missing, Told, value, no_value, waits}
use Rattle.reading.specs.Knowledge.{finished, told, and_then, both_told}
use Rattle.reading.proofs.Parts as parts
use Rattle.arm_env.specs.Look.{Look, Fact, Looking, seen}
use Rattle.arm_env.specs.Part.{kept}
use Rattle.arm_env.specs.Held.{Held, plain, capped, held_value}
use Rattle.arm_env.specs.Answer.{told_of, plain_told, Stops, Gives, outcome_told, outcome_of}
use Rattle.arm_env.specs.declared.stop.Stop.{Stop}
use Rattle.arm_env.specs.declared.stop.Stop.TheVariants as stop

module _ (p : Look → Known Fact) where
  pub told-done : {A : Type 0} (o : Option A) → told p (done o) ≡ finished o
  unfolding told
  told-done o = refl

  pub told-continued : {A B : Type 0} (r : Looking A) (f : A → Looking B)
      → told p (continued r f) ≡ and_then (told p r) (λ x. told p (f x))
  told-continued {A} {B} r f = parts.told-continued Look Fact A B p r f

  pub told-both : {A B : Type 0} (r : Looking A) (s : Looking B)
      → told p (both r s) ≡ both_told (told p r) (told p s)
  told-both {A} {B} r s = parts.told-both Look Fact A B p r s

  seen_by : {A : Type 0} (f : Fact → Option A) (c : Look) (e : Known Fact) → p c ≡ e
      → told p (seen f c) ≡ told_of f c e
  unfolding told seen
  seen_by f c (known x) h = rw h refl
  seen_by f c absent h = rw h refl
  seen_by f c missing h = rw h refl

  pub told-seen : {A : Type 0} (f : Fact → Option A) (c : Look)
      → told p (seen f c) ≡ told_of f c (p c)
  told-seen f c = seen_by f c (p c) refl

  done_next : {A B : Type 0} (f : A → Option B) (t : Told Look A)
      → and_then t (λ x. told p (done (f x))) ≡ and_then t (λ x. finished (f x))
  done_next f (value x) = told-done (f x)
  done_next f no_value = refl
  done_next f (waits c) = refl

  pub told-capped : (o : Looking Json)
      → told p (capped o) ≡ and_then (told p o) (λ j. finished (kept j))
  unfolding capped
  told-capped o = told-continued o _ ∙ done_next kept (told p o)

  plain_kept : (o : Option Json) → and_then (finished {C = Look} o) (λ j. value (plain j))
      ≡ finished (option_map plain o)
  plain_kept (Some j) = refl
  plain_kept None = refl

  plain_next : (t : Told Look Json)
      → and_then (and_then t (λ j. finished (kept j))) (λ j. told p (pure (plain j)))
      ≡ and_then t (λ j. plain_told (Some j))
  plain_next (value j) = done_next (λ j. Some (plain j)) (finished (kept j)) ∙ plain_kept (kept j)
  plain_next no_value = refl
  plain_next (waits c) = refl

  pub told-held_value : (o : Looking Json)
      → told p (held_value o) ≡ and_then (told p o) (λ j. plain_told (Some j))
  unfolding held_value
  told-held_value o = told-continued (capped o) _
      ∙ ap (λ t. and_then t (λ j. told p (pure (plain j)))) (told-capped o)
      ∙ plain_next (told p o)

  plain_done : (o : Option Json) → and_then (finished o) (λ j. plain_told (Some j)) ≡ plain_told o
  plain_done (Some j) = refl
  plain_done None = refl

  pub told-plain : (o : Option Json) → told p (held_value (done o)) ≡ plain_told o
  told-plain o = told-held_value (done o)
      ∙ ap (λ t. and_then t (λ j. plain_told (Some j))) (told-done o) ∙ plain_done o

-- what is told is one value, or none
pub same_value : {A : Type 0} (t : Told Look A) (x y : A) → t ≡ value x → t ≡ value y → x ≡ y
same_value (value z) x y e f =
    let a : z ≡ x = cc in
    let b : z ≡ y = cc in
    sym a ∙ b
same_value no_value x y e f = absurd cc
same_value (waits c) x y e f = absurd cc

pub never_value : {A : Type 0} (t : Told Look A) (x : A) → t ≡ no_value → t ≡ value x → ⊥
never_value (value z) x e f = absurd cc
never_value no_value x e f = absurd cc
never_value (waits c) x e f = absurd cc

-- what goes on after a value
pub goes : {A B : Type 0} (p : Look → Known Fact) (r : Looking A) (f : A → Looking B) (x : A)
    → told p r ≡ value x → told p (continued r f) ≡ told p (f x)
goes p r f x e = told-continued p r f ∙ ap (λ t. and_then t (λ x. told p (f x))) e

-- what stops a part stops what goes on after it
pub stopped : {A B : Type 0} (s : Stop) (t : Told Look A) (f : A → Told Look B) → Stops s t
    → Stops s (and_then t f)
stopped stop.NoValue (value x) f h = absurd cc
stopped stop.NoValue no_value f h = refl
stopped stop.NoValue (waits c) f h = absurd cc
stopped (stop.Waits c) (value x) f h = absurd cc
stopped (stop.Waits c) no_value f h = absurd cc
stopped (stop.Waits c) (waits d) f h = cc
stopped stop.OutOfMemory t f h = tt

-- a stop of a part is a stop of all that goes on after it
pub stops : {A B : Type 0} (s : Stop) (p : Look → Known Fact) (r : Looking A) (f : A → Looking B)
    → Stops s (told p r) → Stops s (told p (continued r f))
stops s p r f h = rw told-continued (stopped s (told p r) (λ x. told p (f x)) h)

-- the outcome of what gives an answer gives the outcome of that answer
pub outcome_gives : {X A : Type 0} (view : X → A) (r : Result X Stop) (t : Told Look A) → Gives view r t
    → Gives (option_map view) (outcome_of r) (outcome_told t)
outcome_gives view (Ok x) t h = ap outcome_told h
outcome_gives view (Err stop.NoValue) t h = ap outcome_told h
outcome_gives view (Err (stop.Waits c)) t h = ap outcome_told h
outcome_gives view (Err stop.OutOfMemory) t h = tt

pub ruleset answers = (
  told-done,
  told-continued,
  told-both,
  told-capped,
  told-held_value,
  told-plain,
)

-- what is known of one cell
pub ruleset looks = (told-seen)
