-- What loops gather turn by turn, where each turn gives a value or none.
use Rattle.std.proofs.Common.{◌≡◌, ◌<◌, ◌≤◌, ◌+◌, ℕ, List, [], ◌∷◌, ◌++◌, map, take, length, get_or, true, false}
use Rattle.std.proofs.Common.{Option, Some, None, option_map, refl, sym, ap, ◌∙◌, subst}
use Rattle.std.proofs.lemmas.List.{take_all}
use Rattle.reading.specs.Reading.{joined}
use Rattle.reading.specs.Knowledge.{Known, Told, value, no_value, waits, told, finished, and_then}
use Rattle.arm_env.specs.Look.{Look, Fact, Looking, all}
use Rattle.arm_env.specs.Answer.{outcome_told, gathered, Stops}
use Rattle.arm_env.specs.declared.stop.Stop.{Stop}
use Rattle.arm_env.specs.declared.stop.Stop.TheVariants as stop
use Rattle.arm_env.proofs.Gather.{one_value, one_none, one_stops}

outcome_given : {B : Type 0} (o : Option B) → outcome_told (finished o) ≡ value o
outcome_given (Some b) = refl
outcome_given None = refl

-- a stop of a part, other than that it has no value, is a stop of the outcome of the whole
stops_outcome : {A B : Type 0} (s : Stop) (a : Told Look A) (t : Told Look B) → Stops s (outcome_told a) → Stops s t
    → Stops s (outcome_told t)
stops_outcome stop.NoValue (value x) t h e = absurd cc
stops_outcome stop.NoValue no_value t h e = absurd cc
stops_outcome stop.NoValue (waits k) t h e = absurd cc
stops_outcome (stop.Waits k) a t h e = ap outcome_told e
stops_outcome stop.OutOfMemory a t h e = tt

-- what stops an outcome stops what it is the outcome of
pub stops_in : {A : Type 0} (s : Stop) (t : Told Look A) → Stops s (outcome_told t) → Stops s t
stops_in stop.NoValue (value x) h = absurd cc
stops_in stop.NoValue no_value h = absurd cc
stops_in stop.NoValue (waits k) h = absurd cc
stops_in (stop.Waits k) (value x) h = absurd cc
stops_in (stop.Waits k) no_value h = absurd cc
stops_in (stop.Waits k) (waits l) h = cc
stops_in stop.OutOfMemory t h = tt

pub given_in : {A : Type 0} (t : Told Look A) (o : Option A) → outcome_told t ≡ value o → t ≡ finished o
given_in (value x) o e = let same : Some x ≡ o = cc in ap finished same
given_in no_value o e = let same : None ≡ o = cc in ap finished same
given_in (waits k) o e = absurd cc

module _ (A : Type 0) (p : Look → Known Fact) (B : Type 0) (f : List A → B) (X : Type 0) (h : X → Looking A) where
  -- a turn
  pub turned : (g : B → A → B) → ((xs : List A) (x : A) → f (xs ++ x ∷ []) ≡ g (f xs) x)
      → (xs : List X) (i : ℕ) (x : X) (o : Option B) (a : Option A)
      → i < length xs → x ≡ get_or xs i x → gathered f p (map h (take i xs)) ≡ finished o
      → outcome_told (told p (h x)) ≡ value a
      → gathered f p (map h (take (i + 1) xs)) ≡ finished (option_map (λ q. g q.0 q.1) (joined o a))
  turned g k xs i x (Some b) (Some a) l e s found = one_value A p B f X h g k xs i x true b a l e s found
  turned g k xs i x (Some b) None l e s found = one_none A p B f X h xs i x true b b l e s found
  turned g k xs i x None (Some a) l e s found = one_value A p B f X h g k xs i x false (f []) a l e s found
  turned g k xs i x None None l e s found = one_none A p B f X h xs i x false (f []) (f []) l e s found

  -- a turn that stops the whole
  pub turn_stops : (s : Stop) (xs : List X) (i : ℕ) (x : X) (o : Option B) → i < length xs → x ≡ get_or xs i x
      → gathered f p (map h (take i xs)) ≡ finished o
      → Stops s (outcome_told (told p (h x))) → Stops s (outcome_told (gathered f p (map h xs)))
  turn_stops s xs i x (Some b) l e g found =
      stops_outcome s (told p (h x)) _ found (one_stops A p B f X h s xs i x true b l e g found)
  turn_stops s xs i x None l e g found =
      stops_outcome s (told p (h x)) _ found (one_stops A p B f X h s xs i x false (f []) l e g found)

  -- after the last turn
  pub all_turned : (xs : List X) (i : ℕ) (o : Option B) → length xs ≤ i → gathered f p (map h (take i xs)) ≡ finished o
      → outcome_told (gathered f p (map h xs)) ≡ value o
  all_turned xs i o l e = ap (λ ys. outcome_told (gathered f p (map h ys))) (sym (take_all i xs l))
      ∙ ap outcome_told e ∙ outcome_given o

-- what is gathered as it is
itself : {A : Type 0} (t : Told Look A) → and_then t (λ x. value x) ≡ t
itself (value x) = refl
itself no_value = refl
itself (waits k) = refl

module _ (p : Look → Known Fact) where
  pub all_given : {A : Type 0} (os : List (Looking A)) (o : Option (List A))
      → outcome_told (gathered (λ xs. xs) p os) ≡ value o → told p (all os) ≡ finished o
  all_given os o e = sym (itself (told p (all os))) ∙ given_in _ o e

  pub all_stop : {A : Type 0} (s : Stop) (os : List (Looking A)) → Stops s (outcome_told (gathered (λ xs. xs) p os))
      → Stops s (told p (all os))
  all_stop {A} s os h = let P : Told Look (List A) → Type 0 = Stops s in
      subst P (itself (told p (all os))) (stops_in s _ h)
