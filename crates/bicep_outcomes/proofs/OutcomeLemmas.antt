-- What is returned for readings that are made of others.
use Rattle.std.proofs.Common.{◌≡◌, ℕ, Option, Some, None, refl, sym, ap, ◌∙◌, subst}
use Rattle.std.specs.Prelude.{Result, Ok, Err}
use Rattle.reading.specs.Reading.{Reading, done, continued, both}
use Rattle.reading.specs.Knowledge.{Known, Told, value, no_value, waits, told, finished, and_then}
use Rattle.reading.specs.Knowledge.{both_told, beside_told}
use Rattle.reading.proofs.Parts as parts
use Rattle.arm_value.specs.Json.{Json}
use Rattle.arm_value.specs.View.{json}
use Rattle.arm_value.specs.declared.value.Value.{Value}
use Rattle.bicep_outcomes.specs.declared.stop.Stop.{Stop}
use Rattle.bicep_outcomes.specs.declared.stop.Stop.TheVariants as stop
use Rattle.bicep_outcomes.specs.Outcomes.{Stops, Gives, IsFound, Then, paired, IsSame}

module _ {C J : Type 0} (p : C → Known J) where
  pub told-done : {A : Type 0} (o : Option A) → told p (done o) ≡ finished o
  unfolding told
  told-done o = refl

  pub told-continued : {A B : Type 0} (r : Reading C J A) (f : A → Reading C J B)
      → told p (continued r f) ≡ and_then (told p r) (λ x. told p (f x))
  told-continued {A} {B} r f = parts.told-continued C J A B p r f

  pub told-both : {A B : Type 0} (r : Reading C J A) (s : Reading C J B)
      → told p (both r s) ≡ both_told (told p r) (told p s)
  told-both {A} {B} r s = parts.told-both C J A B p r s

  done_next : {A B : Type 0} (f : A → Option B) (t : Told C A)
      → and_then t (λ x. told p (done (f x))) ≡ and_then t (λ x. finished (f x))
  done_next f (value x) = told-done (f x)
  done_next f no_value = refl
  done_next f (waits c) = refl

  pub told-then : {A B : Type 0} (r : Reading C J A) (f : A → Option B)
      → told p (continued r (λ x. done (f x))) ≡ and_then (told p r) (λ x. finished (f x))
  told-then r f = told-continued r (λ x. done (f x)) ∙ done_next f (told p r)

  -- what goes on after a value
  pub goes : {A B : Type 0} (r : Reading C J A) (f : A → Reading C J B) (x : A) → told p r ≡ value x
      → told p (continued r f) ≡ told p (f x)
  goes r f x e = told-continued r f ∙ ap (λ t. and_then t (λ y. told p (f y))) e

module _ {C : Type 0} (cell : ℕ → C) where
  -- what stops a part stops what goes on after it
  pub stays : {A B : Type 0} (s : Stop) (t : Told C A) (k : A → Told C B) → Stops cell s t → Stops cell s (and_then t k)
  stays stop.NoValue t k h = ap (λ u. and_then u k) h
  stays (stop.Waits n) t k h = ap (λ u. and_then u k) h
  stays stop.OutOfMemory t k h = tt

  stays_beside : {A B : Type 0} (o : Option A) (s : Stop) (t : Told C B) → Stops cell s t
      → Stops cell s (beside_told o t)
  stays_beside o stop.NoValue t h = ap (beside_told o) h
  stays_beside o (stop.Waits n) t h = ap (beside_told o) h
  stays_beside o stop.OutOfMemory t h = tt

  pub found_gives : {Y B : Type 0} (to : Y → B) (o : Option B) (r : Result Y Stop) → IsFound to o r
      → Gives cell to r (finished o)
  found_gives to o (Ok y) h = ap finished h
  found_gives to o (Err stop.NoValue) h = ap finished h
  found_gives to o (Err (stop.Waits n)) h = absurd h
  found_gives to o (Err stop.OutOfMemory) h = tt

  pub stop_gives : {Y B : Type 0} (to : Y → B) (s : Stop) (r : Result Y Stop) (t : Told C B) → r ≡ Err s
      → Stops cell s t → Gives cell to r t
  stop_gives {Y = Y} to s r t e h = subst (λ (x : Result Y Stop). Gives cell to x t) (sym e) h

  -- of a value that is given
  pub then_gives : {X Y A B : Type 0} (from : X → A) (to : Y → B) (f : A → Option B) (given : Result X Stop)
      (r : Result Y Stop) (t : Told C A) → Gives cell from given t → Then from to f given r
      → Gives cell to r (and_then t (λ x. finished (f x)))
  then_gives {B = B} from to f (Ok x) r t g h =
      subst (λ (u : Told C B). Gives cell to r u) (sym (ap (λ u. and_then u (λ y. finished (f y))) g))
      (found_gives to (f (from x)) r h)
  then_gives from to f (Err s) r t g h =
      stop_gives to s r (and_then t (λ x. finished (f x))) h (stays s t (λ x. finished (f x)) g)

  -- of both
  pub pair_gives : {X Y A B : Type 0} (f : X → A) (g : Y → B) (a : Result X Stop) (b : Result Y Stop) (t : Told C A)
      (u : Told C B) → Gives cell f a t → Gives cell g b u
      → Gives cell (λ (q : X × Y). (f q.0, g q.1)) (paired a b) (both_told t u)
  pair_gives f g (Ok x) (Ok y) t u h k = ap (λ w. both_told w u) h ∙ ap (beside_told (Some (f x))) k
  pair_gives {A = A} {B = B} f g (Ok x) (Err s) t u h k =
      subst (λ (w : Told C (A × B)). Stops cell s w) (sym (ap (λ w. both_told w u) h))
      (stays_beside (Some (f x)) s u k)
  pair_gives f g (Err stop.NoValue) (Ok y) t u h k = ap (λ w. both_told w u) h ∙ ap (beside_told None) k
  pair_gives {A = A} {B = B} f g (Err stop.NoValue) (Err s) t u h k =
      subst (λ (w : Told C (A × B)). Stops cell s w) (sym (ap (λ w. both_told w u) h)) (stays_beside None s u k)
  pair_gives f g (Err (stop.Waits n)) b t u h k = ap (λ w. both_told w u) h
  pair_gives f g (Err stop.OutOfMemory) b t u h k = tt

  -- of a copy
  pub same_gives : (a r : Result Value Stop) (t : Told C Json) → Gives cell json a t → IsSame a r → Gives cell json r t
  same_gives (Ok v) (Ok w) t h e = h ∙ ap value (sym e)
  same_gives (Ok v) (Err s) t h e = subst (λ x. Stops cell x t) (sym e) tt
  same_gives (Err s) r t h e = stop_gives json s r t e h
