-- What many readings give together, part by part.
use Rattle.std.proofs.Common.{◌≡◌, ◌<◌, ◌≤◌, ◌+◌, ℕ, zero, suc, List, [], ◌∷◌, ◌++◌, map, take}
use Rattle.std.proofs.Common.{drop, length, get_or, Bool, true, false, Some, None, refl, sym, ap}
use Rattle.std.proofs.Common.{◌∙◌, subst, arith, add-one}
use Rattle.std.proofs.lemmas.List.{take_all}
use Rattle.reading.specs.Reading.{pure, both}
use Rattle.reading.specs.Knowledge.{Known, Told, value, no_value, waits, told, and_then, both_told}
use Rattle.arm_env.specs.Look.{Look, Fact, Looking, all}
use Rattle.arm_env.specs.Answer.{outcome_told, gathered, so_far, Stops}
use Rattle.arm_env.specs.declared.stop.Stop.{Stop}
use Rattle.arm_env.specs.declared.stop.Stop.TheVariants as stop
use Rattle.arm_env.proofs.Answers.{told-done, told-continued, told-both}

-- an answer before others, and others after others
abbrev pub before : {A : Type 0} → Told Look A → Told Look (List A) → Told Look (List A)
before s t = and_then (both_told s t) (λ p. value (p.0 ∷ p.1))

abbrev pub followed : {A : Type 0} → Told Look (List A) → Told Look (List A) → Told Look (List A)
followed s t = and_then (both_told s t) (λ p. value (p.0 ++ p.1))

module _ (A : Type 0) where
  before_followed : (s : Told Look A) (t u : Told Look (List A))
      → before s (followed t u) ≡ followed (before s t) u
  before_followed (waits k) t u = refl
  before_followed (value x) (waits k) u = refl
  before_followed (value x) (value xs) (value ys) = refl
  before_followed (value x) (value xs) no_value = refl
  before_followed (value x) (value xs) (waits k) = refl
  before_followed (value x) no_value (value ys) = refl
  before_followed (value x) no_value no_value = refl
  before_followed (value x) no_value (waits k) = refl
  before_followed no_value (waits k) u = refl
  before_followed no_value (value xs) (value ys) = refl
  before_followed no_value (value xs) no_value = refl
  before_followed no_value (value xs) (waits k) = refl
  before_followed no_value no_value (value ys) = refl
  before_followed no_value no_value no_value = refl
  before_followed no_value no_value (waits k) = refl

  nothing_before : (t : Told Look (List A)) → followed (value []) t ≡ t
  nothing_before (value xs) = refl
  nothing_before no_value = refl
  nothing_before (waits k) = refl

  module _ (p : Look → Known Fact) where
    pure_next : (t : Told Look (A × List A))
        → and_then t (λ q. told p (pure (q.0 ∷ q.1))) ≡ and_then t (λ q. value (q.0 ∷ q.1))
    pure_next (value q) = told-done p (Some (q.0 ∷ q.1))
    pure_next no_value = refl
    pure_next (waits k) = refl

    all-nil : told p (all {A = A} []) ≡ value []
    unfolding all
    all-nil = told-done p (Some [])

    all-cons : (o : Looking A) (os : List (Looking A))
        → told p (all (o ∷ os)) ≡ before (told p o) (told p (all os))
    unfolding all
    all-cons o os = told-continued p (both o (all os)) _ ∙ pure_next _
        ∙ ap (λ t. and_then t (λ q. value (q.0 ∷ q.1))) (told-both p o (all os))

    all-append : (os ps : List (Looking A))
        → told p (all (os ++ ps)) ≡ followed (told p (all os)) (told p (all ps))
    all-append [] ps = sym (ap (λ t. followed t (told p (all ps))) all-nil ∙ nothing_before _)
    all-append (o ∷ os) ps =
        all-cons o (os ++ ps) ∙ ap (before (told p o)) (all-append os ps)
        ∙ before_followed (told p o) _ _
        ∙ ap (λ t. followed t (told p (all ps))) (sym (all-cons o os))

    all-more : (os : List (Looking A)) (o : Looking A)
        → told p (all (os ++ o ∷ [])) ≡ followed (told p (all os))
        (before (told p o) (value []))
    all-more os o = all-append os (o ∷ [])
        ∙ ap (followed (told p (all os))) (all-cons o [] ∙ ap (before (told p o)) all-nil)

    module _ (B : Type 0) (f : List A → B) where
      pub gathered-nil : gathered f p [] ≡ value (f [])
      gathered-nil = ap (λ t. and_then t (λ xs. value (f xs))) all-nil

      -- a turn of a loop: a value
      turn_value : (g : B → A → B) → ((xs : List A) (x : A) → f (xs ++ x ∷ []) ≡ g (f xs) x)
          → (t : Told Look (List A)) (c : Bool) (b : B) (x : A)
          → and_then t (λ xs. value (f xs)) ≡ so_far c b
          → and_then (followed t (before (value x) (value []))) (λ xs. value (f xs)) ≡ so_far c (g b x)
      turn_value g h (value xs) true b x e = let same : f xs ≡ b = cc in
          ap value (h xs x ∙ ap (λ b. g b x) same)
      turn_value g h (value xs) false b x e = absurd cc
      turn_value g h no_value true b x e = absurd cc
      turn_value g h no_value false b x e = refl
      turn_value g h (waits k) true b x e = absurd cc
      turn_value g h (waits k) false b x e = absurd cc

      turn_none : (t : Told Look (List A)) (c : Bool) (b : B) → and_then t (λ xs. value (f xs)) ≡ so_far c b
          → and_then (followed t (before no_value (value []))) (λ xs. value (f xs)) ≡ no_value
      turn_none (value xs) c b e = refl
      turn_none no_value c b e = refl
      turn_none (waits k) true b e = absurd cc
      turn_none (waits k) false b e = absurd cc

      turn_stops : (s : Stop) (t u : Told Look (List A)) (c : Bool) (b : B) (a : Told Look A)
          → and_then t (λ xs. value (f xs)) ≡ so_far c b → Stops s (outcome_told a)
          → Stops s (and_then (followed t (before a u)) (λ xs. value (f xs)))
      turn_stops stop.NoValue t u c b (value x) e h = absurd cc
      turn_stops stop.NoValue t u c b no_value e h = absurd cc
      turn_stops stop.NoValue t u c b (waits k) e h = absurd cc
      turn_stops (stop.Waits k) t u c b (value x) e h = absurd cc
      turn_stops (stop.Waits k) t u c b no_value e h = absurd cc
      turn_stops (stop.Waits k) (value xs) u c b (waits l) e h = cc
      turn_stops (stop.Waits k) no_value u c b (waits l) e h = cc
      turn_stops (stop.Waits k) (waits m) u true b (waits l) e h = absurd cc
      turn_stops (stop.Waits k) (waits m) u false b (waits l) e h = absurd cc
      turn_stops stop.OutOfMemory t u c b a e h = tt

      valued : (a : Told Look A) (x : A) → outcome_told a ≡ value (Some x) → a ≡ value x
      valued (value y) x e = cc
      valued no_value x e = absurd cc
      valued (waits k) x e = absurd cc

      voided : (a : Told Look A) → outcome_told a ≡ value None → a ≡ no_value
      voided (value y) e = absurd cc
      voided no_value e = refl
      voided (waits k) e = absurd cc

      -- over what a list's elements look at
      module _ (X : Type 0) (h : X → Looking A) where
        cut : (xs : List X) (i : ℕ) (x : X) → i < length xs → x ≡ get_or xs i x
            → map h xs ≡ map h (take i xs) ++ h x ∷ map h (drop (suc i) xs)
        cut [] i x l e = absurd (omega arith)
        cut (y ∷ xs) zero x l e = ap (λ z. h z ∷ map h xs) (sym e)
        cut (y ∷ xs) (suc i) x l e = ap (λ os. h y ∷ os) (cut xs i x (omega arith) e)

        taken : (xs : List X) (i : ℕ) (x : X) → i < length xs → x ≡ get_or xs i x
            → map h (take (suc i) xs) ≡ map h (take i xs) ++ h x ∷ []
        taken [] i x l e = absurd (omega arith)
        taken (y ∷ xs) zero x l e = ap (λ z. h z ∷ []) (sym e)
        taken (y ∷ xs) (suc i) x l e = ap (λ os. h y ∷ os) (taken xs i x (omega arith) e)

        more_is : (xs : List X) (i : ℕ) (x : X) → i < length xs → x ≡ get_or xs i x
            → gathered f p (map h (take (i + 1) xs))
            ≡ and_then (followed (told p (all (map h (take i xs))))
            (before (told p (h x)) (value []))) (λ xs. value (f xs))
        more_is xs i x l e =
            rw add-one (ap (gathered f p) (taken xs i x l e)
            ∙ ap (λ t. and_then t (λ xs. value (f xs))) (all-more (map h (take i xs)) (h x)))

        pub one_value : (g : B → A → B) → ((xs : List A) (x : A) → f (xs ++ x ∷ []) ≡ g (f xs) x)
            → (xs : List X) (i : ℕ) (x : X) (c : Bool) (b : B) (a : A)
            → i < length xs → x ≡ get_or xs i x → gathered f p (map h (take i xs)) ≡ so_far c b
            → outcome_told (told p (h x)) ≡ value (Some a)
            → gathered f p (map h (take (i + 1) xs)) ≡ so_far c (g b a)
        one_value g k xs i x c b a l e before_it found =
            more_is xs i x l e
            ∙ ap (λ t. and_then (followed (told p (all (map h (take i xs)))) (before t (value [])))
            (λ xs. value (f xs))) (valued _ a found)
            ∙ turn_value g k (told p (all (map h (take i xs)))) c b a before_it

        pub one_none : (xs : List X) (i : ℕ) (x : X) (c : Bool) (b d : B) → i < length xs
            → x ≡ get_or xs i x → gathered f p (map h (take i xs)) ≡ so_far c b
            → outcome_told (told p (h x)) ≡ value None
            → gathered f p (map h (take (i + 1) xs)) ≡ so_far false d
        one_none xs i x c b d l e before_it found =
            more_is xs i x l e
            ∙ ap (λ t. and_then (followed (told p (all (map h (take i xs)))) (before t (value [])))
            (λ xs. value (f xs))) (voided _ found)
            ∙ turn_none (told p (all (map h (take i xs)))) c b before_it

        pub one_stops : (s : Stop) (xs : List X) (i : ℕ) (x : X) (c : Bool) (b : B) → i < length xs
            → x ≡ get_or xs i x → gathered f p (map h (take i xs)) ≡ so_far c b
            → Stops s (outcome_told (told p (h x)))
            → Stops s (gathered f p (map h xs))
        one_stops s xs i x c b l e before_it found =
            let rest = told p (all (map h (drop (suc i) xs))) in
            let whole : gathered f p (map h xs)
            ≡ and_then (followed (told p (all (map h (take i xs))))
            (before (told p (h x)) rest)) (λ xs. value (f xs)) =
            ap (gathered f p) (cut xs i x l e)
            ∙ ap (λ t. and_then t (λ xs. value (f xs)))
            (all-append (map h (take i xs)) (h x ∷ map h (drop (suc i) xs))
            ∙ ap (followed (told p (all (map h (take i xs)))))
            (all-cons (h x) (map h (drop (suc i) xs)))) in
            let P : Told Look B → Type 0 = Stops s in
            subst P (sym whole)
            (turn_stops s (told p (all (map h (take i xs)))) rest c b
            (told p (h x)) before_it found)

        pub at_end : (xs : List X) (i : ℕ) (c : Bool) (b : B) → length xs ≤ i
            → gathered f p (map h (take i xs)) ≡ so_far c b → gathered f p (map h xs) ≡ so_far c b
        at_end xs i c b l e = ap (λ ys. gathered f p (map h ys)) (sym (take_all i xs l)) ∙ e
