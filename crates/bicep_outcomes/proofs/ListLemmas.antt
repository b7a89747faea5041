-- What is returned for the readings of a list, which a loop looks at one after another.
use Rattle.std.proofs.Common.{◌≡◌, ℕ, List, [], ◌∷◌, ◌++◌, map, Option, Some, None, option_map, refl, sym, ap, ◌∙◌}
use Rattle.std.proofs.Common.{subst, append_assoc, append-nil, ◌+◌}
use Rattle.std.specs.Prelude.{Result, Ok, Err}
use Rattle.std.specs.declared.vec.Vec.{Vec}
use Rattle.std.specs.declared.alloc.Global.{Global}
use Rattle.foundation.proofs.Lists.{map-push}
use Rattle.reading.specs.Reading.{both, pure}
use Rattle.reading.specs.Knowledge.{Known, Told, value, no_value, waits, told, finished, and_then, both_told}
use Rattle.arm_value.specs.Json.{Json}
use Rattle.deploy_cells.specs.Cells.{Cell}
use Rattle.deploy_cells.specs.Guarded.{Reads}
use Rattle.bicep_meaning.specs.Rows.{all}
use Rattle.bicep_outcomes.specs.declared.stop.Stop.{Stop}
use Rattle.bicep_outcomes.specs.declared.stop.Stop.TheVariants as stop
use Rattle.bicep_outcomes.specs.Outcomes.{Stops, Gives, IsAdded, listed, with_one, whole}
use Rattle.bicep_outcomes.proofs.OutcomeLemmas.{told-done, told-continued, told-both}

-- one before others
abbrev pub before : {A : Type 0} → Told Cell A → Told Cell (List A) → Told Cell (List A)
before s t = and_then (both_told s t) (λ q. value (q.0 ∷ q.1))

-- what was found so far, and then the others
abbrev pub follow : {A : Type 0} → Option (List A) → Told Cell (List A) → Told Cell (List A)
follow o t = and_then (both_told (finished o) t) (λ q. value (q.0 ++ q.1))

abbrev pub seen : {X A : Type 0} → (X → A) → Option (Vec X Global) → Option (List A)
seen view found = option_map (map view) (listed found)

module _ {A : Type 0} where
  pub follow-none : (t : Told Cell (List A)) → t ≡ follow (Some []) t
  follow-none (value xs) = refl
  follow-none no_value = refl
  follow-none (waits c) = refl

  follow-end : (o : Option (List A)) → follow o (value []) ≡ finished o
  follow-end (Some xs) = ap value (append-nil xs)
  follow-end None = refl

  step_value : (o : Option (List A)) (x : A) (t : Told Cell (List A))
      → follow o (before (value x) t) ≡ follow (with_one o x) t
  step_value (Some xs) x (value ys) = ap value (sym (append_assoc xs (x ∷ []) ys))
  step_value (Some xs) x no_value = refl
  step_value (Some xs) x (waits c) = refl
  step_value None x (value ys) = refl
  step_value None x no_value = refl
  step_value None x (waits c) = refl

  step_none : (o : Option (List A)) (t : Told Cell (List A)) → follow o (before no_value t) ≡ follow None t
  step_none (Some xs) (value ys) = refl
  step_none (Some xs) no_value = refl
  step_none (Some xs) (waits c) = refl
  step_none None (value ys) = refl
  step_none None no_value = refl
  step_none None (waits c) = refl

  step_waits : (o : Option (List A)) (c : Cell) (t : Told Cell (List A)) → follow o (before (waits c) t) ≡ waits c
  step_waits (Some xs) c t = refl
  step_waits None c t = refl

module _ (p : Cell → Known Json) {A : Type 0} where
  pure_next : (t : Told Cell (A × List A))
      → and_then t (λ q. told p (pure (q.0 ∷ q.1))) ≡ and_then t (λ q. value (q.0 ∷ q.1))
  pure_next (value q) = told-done p (Some (q.0 ∷ q.1))
  pure_next no_value = refl
  pure_next (waits k) = refl

  pub all-nil : told p (all {A = A} []) ≡ value []
  unfolding all
  all-nil = told-done p (Some [])

  pub all-cons : (r : Reads A) (rs : List (Reads A)) → told p (all (r ∷ rs)) ≡ before (told p r) (told p (all rs))
  unfolding all
  all-cons r rs = told-continued p (both r (all rs)) _ ∙ pure_next _
      ∙ ap (λ t. and_then t (λ q. value (q.0 ∷ q.1))) (told-both p r (all rs))

module _ (cell : ℕ → Cell) {X A : Type 0} (view : X → A) where
  seen_one : (o : Option (List X)) (x : X) → option_map (map view) (with_one o x)
      ≡ with_one (option_map (map view) o) (view x)
  seen_one (Some xs) x = ap Some (map-push view xs x)
  seen_one None x = refl

  none_of : {B : Type 0} (x y : Option B) → ◌≡◌ {A = Result (Option B) Stop} (Ok x) (Ok y) → x ≡ y
  none_of x y e = cc

  stop_of : {B : Type 0} (s t : Stop) → ◌≡◌ {A = Result B Stop} (Err s) (Err t) → s ≡ t
  stop_of s t e = cc

  -- one more that was found, or that has no value
  added : (found : Option (Vec X Global)) (one : Result X Stop) (more : Option (Vec X Global)) (t : Told Cell A)
      (rest : Told Cell (List A)) → Gives cell view one t → IsAdded found one (Ok more)
      → follow (seen view found) (before t rest) ≡ follow (seen view more) rest
  added found (Ok x) more t rest g h =
      ap (λ u. follow (seen view found) (before u rest)) g ∙ step_value (seen view found) (view x) rest
      ∙ ap (λ o. follow o rest) (sym (ap (option_map (map view)) h ∙ seen_one (listed found) x))
  added found (Err stop.NoValue) more t rest g h =
      ap (λ u. follow (seen view found) (before u rest)) g ∙ step_none (seen view found) rest
      ∙ ap (λ o. follow (seen view o) rest) (sym (none_of more None h))
  added found (Err (stop.Waits n)) more t rest g h = absurd cc
  added found (Err stop.OutOfMemory) more t rest g h = absurd cc

  added_stops : (found : Option (Vec X Global)) (one : Result X Stop) (s : Stop) (t : Told Cell A)
      (rest : Told Cell (List A)) → Gives cell view one t → IsAdded found one (Err s)
      → Stops cell s (follow (seen view found) (before t rest))
  added_stops found (Ok x) s t rest g h =
      subst (λ u. Stops cell u (follow (seen view found) (before t rest))) (sym h) tt
  added_stops found (Err stop.NoValue) s t rest g h = absurd cc
  added_stops found (Err (stop.Waits n)) s t rest g h =
      subst (λ u. Stops cell u (follow (seen view found) (before t rest))) (sym (stop_of s (stop.Waits n) h))
      (ap (λ u. follow (seen view found) (before u rest)) g ∙ step_waits (seen view found) (cell n) rest)
  added_stops found (Err stop.OutOfMemory) s t rest g h =
      subst (λ u. Stops cell u (follow (seen view found) (before t rest))) (sym (stop_of s stop.OutOfMemory h)) tt

  module _ (p : Cell → Known Json) where
    -- a turn of a loop that goes on
    pub turned : (found : Option (Vec X Global)) (one : Result X Stop) (more : Option (Vec X Global))
        (total : Told Cell (List A))
        (r : Reads A) (rs : List (Reads A)) → total ≡ follow (seen view found) (told p (all (r ∷ rs)))
        → Gives cell view one (told p r) → IsAdded found one (Ok more)
        → total ≡ follow (seen view more) (told p (all rs))
    turned found one more total r rs e g h =
        e ∙ ap (follow (seen view found)) (all-cons p r rs) ∙ added found one more (told p r) (told p (all rs)) g h

    -- a turn that stops it
    pub turn_stops : (found : Option (Vec X Global)) (one : Result X Stop) (s : Stop) (total : Told Cell (List A))
        (r : Reads A) (rs : List (Reads A)) → total ≡ follow (seen view found) (told p (all (r ∷ rs)))
        → Gives cell view one (told p r) → IsAdded found one (Err s) → Stops cell s total
    turn_stops found one s total r rs e g h =
        subst (λ (t : Told Cell (List A)). Stops cell s t)
        (sym (e ∙ ap (follow (seen view found)) (all-cons p r rs)))
        (added_stops found one s (told p r) (told p (all rs)) g h)

    -- after the last turn
    pub all_given : (found : Option (Vec X Global)) (t : Told Cell (List A))
        → t ≡ follow (seen view found) (told p (all {A = A} []))
        → Gives cell (λ (v : Vec X Global). map view v.items) (whole found) t
    all_given (Some v) t e = e ∙ ap (follow (Some (map view v.items))) (all-nil p)
        ∙ follow-end (Some (map view v.items))
    all_given None t e = e ∙ ap (follow None) (all-nil p) ∙ follow-end None
