-- Parts that are found one after another, by a loop.
use Rattle.std.proofs.Common.{◌≡◌, ℕ, List, [], ◌∷◌, ◌++◌, map, ◌+◌, suc}
use Rattle.std.proofs.Common.{Option, Some, None, option_map, refl, sym, ap, subst, ◌∙◌}
use Rattle.std.specs.Prelude.{Result, Ok, Err, option_to_list}
use Rattle.std.proofs.lemmas.List.{append-nil, map-append}
use Rattle.bicep_found.specs.declared.stop.Stop.{Stop}
use Rattle.bicep_found.specs.declared.stop.Stop.TheVariants as stop
use Rattle.bicep_found.specs.Found.{Found, found, unknown, mapped, both, all_found, Gives}
use Rattle.bicep_found.specs.Joins.{Pushes, PushesSome}
use Rattle.bicep_found.proofs.FoundLemmas.{gives_ok, gives_unknown}

-- one part
abbrev pub one : {A : Type 0} → A → List A
one x = x ∷ []

-- a part that is missing
abbrev pub nothing : {A : Type 0} → Found (Option A)
nothing = found None

-- what was found, and then what is found of the rest
unfoldable pub after : {A : Type 0} → List A → Found (List A) → Found (List A)
after xs f = mapped (λ ys. xs ++ ys) f

append-both : {A : Type 0} (xs ys zs : List A) → xs ++ (ys ++ zs) ≡ (xs ++ ys) ++ zs
append-both [] ys zs = refl
append-both (x ∷ xs) ys zs = ap (λ l. x ∷ l) (append-both xs ys zs)

map-option : {A B : Type 0} (view : A → B) (o : Option A)
    → option_to_list (option_map view o) ≡ map view (option_to_list o)
map-option view None = refl
map-option view (Some x) = refl

module _ {A : Type 0} where
  -- before the first part
  pub after-none : (f : Found (List A)) → f ≡ after [] f
  unfolding after mapped
  after-none (found ys) = refl
  after-none (unknown at) = refl

  -- after the last part
  pub after-all : (xs : List A) → after xs (all_found []) ≡ found xs
  unfolding after mapped all_found
  after-all xs = ap (λ ys. found ys) (append-nil xs)

  step : (xs ys : List A) (g : Found (List A))
      → after xs (mapped (λ p. p.0 ++ p.1) (both (found ys) g)) ≡ after (xs ++ ys) g
  unfolding after mapped both
  step xs ys (found zs) = ap (λ l. found l) (append-both xs ys zs)
  step xs ys (unknown at) = refl

  -- a part that is found
  pub after-found : (xs ys : List A) (fs : List (Found (List A)))
      → after xs (all_found (found ys ∷ fs)) ≡ after (xs ++ ys) (all_found fs)
  unfolding all_found
  after-found xs ys fs = step xs ys (all_found fs)

  -- a part that is unknown
  pub after-unknown : (xs : List A) (at : ℕ) (fs : List (Found (List A)))
      → after xs (all_found (unknown at ∷ fs)) ≡ unknown at
  unfolding after mapped both all_found
  after-unknown xs at fs = refl

module _ {A B : Type 0} (f : A → B) where
  is-found : (x : A) → mapped f (found x) ≡ found (f x)
  unfolding mapped
  is-found x = refl

  is-unknown : (at : ℕ) → mapped f (unknown at) ≡ unknown at
  unfolding mapped
  is-unknown at = refl

module _ {A X : Type 0} (view : X → A) (all : Found (List A)) (fs : List (Found (List A))) (old new : List X) where
  -- a part was found and put last
  more : (part : Found (List A)) (xs : List X) → all ≡ after (map view old) (all_found (part ∷ fs))
      → part ≡ found (map view xs) → new ≡ old ++ xs → all ≡ after (map view new) (all_found fs)
  more part xs h k p =
      h ∙ ap (λ y. after (map view old) (all_found (y ∷ fs))) k ∙ after-found (map view old) (map view xs) fs
      ∙ ap (λ ys. after ys (all_found fs)) (sym (map-append view old xs) ∙ ap (map view) (sym p))

  -- a part is unknown
  lost : (part : Found (List A)) (at : ℕ) → all ≡ after (map view old) (all_found (part ∷ fs))
      → part ≡ unknown at → all ≡ unknown at
  lost part at h k = h ∙ ap (λ y. after (map view old) (all_found (y ∷ fs))) k ∙ after-unknown (map view old) at fs

  pub more_found : (f : Found A) (a : Result X Stop) (u : Unit {0})
      → all ≡ after (map view old) (all_found (mapped one f ∷ fs)) → Gives view a f → Pushes old a new (Ok u)
      → all ≡ after (map view new) (all_found fs)
  more_found f a u h g p =
      more (mapped one f) (p.0 ∷ []) h (ap (mapped one) (gives_ok view p.0 a f p.1 g) ∙ is-found one (view p.0)) p.2

  pub more_some : (f : Found (Option A)) (a : Result (Option X) Stop) (u : Unit {0})
      → all ≡ after (map view old) (all_found (mapped option_to_list f ∷ fs)) → Gives (option_map view) a f
      → PushesSome old a new (Ok u) → all ≡ after (map view new) (all_found fs)
  more_some f a u h g p =
      more (mapped option_to_list f) (option_to_list p.0) h
      (ap (mapped option_to_list) (gives_ok (option_map view) p.0 a f p.1 g)
      ∙ is-found option_to_list (option_map view p.0) ∙ ap (λ l. found l) (map-option view p.0)) p.2

  module _ {R B : Type 0} (whole : R → B) (build : List A → B) where
    none_by : (why : Stop) (r : Result R Stop) → ((at : ℕ) → why ≡ stop.Unknown at → all ≡ unknown at) → r ≡ Err why
        → Gives whole r (mapped build all)
    none_by (stop.Unknown at) r h is =
        subst (λ (x : Result R Stop). Gives whole x (mapped build all)) (sym is)
        (ap (mapped build) (h at refl) ∙ is-unknown build at)
    none_by stop.OutOfMemory r h is =
        subst (λ (x : Result R Stop). Gives whole x (mapped build all)) (sym is) tt

    unknown_one : (f : Found A) (a : Result X Stop) (why : Stop) (at : ℕ)
        → all ≡ after (map view old) (all_found (mapped one f ∷ fs)) → Gives view a f → Pushes old a new (Err why)
        → why ≡ stop.Unknown at → all ≡ unknown at
    unknown_one f a why at h g p is =
        lost (mapped one f) at h
        (ap (mapped one) (gives_unknown view at a f (subst (λ s. Pushes old a new (Err s)) is p) g) ∙ is-unknown one at)

    unknown_some : (f : Found (Option A)) (a : Result (Option X) Stop) (why : Stop) (at : ℕ)
        → all ≡ after (map view old) (all_found (mapped option_to_list f ∷ fs)) → Gives (option_map view) a f
        → PushesSome old a new (Err why) → why ≡ stop.Unknown at → all ≡ unknown at
    unknown_some f a why at h g p is =
        lost (mapped option_to_list f) at h
        (ap (mapped option_to_list)
        (gives_unknown (option_map view) at a f (subst (λ s. PushesSome old a new (Err s)) is p) g)
        ∙ is-unknown option_to_list at)

    -- a part means nothing, so nothing is found of the whole
    pub none_given : (f : Found A) (a : Result X Stop) (why : Stop) (r : Result R Stop)
        → all ≡ after (map view old) (all_found (mapped one f ∷ fs)) → Gives view a f → Pushes old a new (Err why)
        → r ≡ Err why → Gives whole r (mapped build all)
    none_given f a why r h g p is = none_by why r (λ at e. unknown_one f a why at h g p e) is

    pub none_some : (f : Found (Option A)) (a : Result (Option X) Stop) (why : Stop) (r : Result R Stop)
        → all ≡ after (map view old) (all_found (mapped option_to_list f ∷ fs)) → Gives (option_map view) a f
        → PushesSome old a new (Err why) → r ≡ Err why → Gives whole r (mapped build all)
    none_some f a why r h g p is = none_by why r (λ at e. unknown_some f a why at h g p e) is

-- all were found
pub all_given : {A B X : Type 0} (view : X → A) (build : List A → B) (all : Found (List A)) (xs : List X)
    → all ≡ after (map view xs) (all_found []) → mapped build all ≡ found (build (map view xs))
all_given view build all xs h = ap (mapped build) (h ∙ after-all (map view xs)) ∙ is-found build (map view xs)

-- what is left of the parts, where the items from the place on are those
pub at_rest : {A E : Type 0} (part : E → Found (List A)) (all : Found (List A)) (es rest : List E) (xs : List A)
    → all ≡ after xs (all_found (map part es)) → es ≡ rest → all ≡ after xs (all_found (map part rest))
at_rest part all es rest xs h e = h ∙ ap (λ ys. after xs (all_found (map part ys))) e

-- ---- wholes that are built of their parts

module _ {A B C : Type 0} (build : List A → B) (put : A → B → B) (pre : C → A)
    (built : (x : A) (xs : List A) → build (x ∷ xs) ≡ put x (build xs)) where
  -- a part before the rest
  pub woven : (f : Found C) (g : Found (List A))
      → mapped (λ p. put (pre p.0) p.1) (both f (mapped build g))
      ≡ mapped build (mapped (λ p. p.0 ++ p.1) (both (mapped one (mapped pre f)) g))
  unfolding mapped both
  woven (found x) (found xs) = ap (λ y. found y) (sym (built (pre x) xs))
  woven (found x) (unknown at) = refl
  woven (unknown at) g = refl

  -- the same where a part may be missing
  pub woven_some : (f : Found C) (g : Found (List A))
      → mapped (λ p. put (pre p.0) p.1) (both f (mapped build g))
      ≡ mapped build (mapped (λ p. p.0 ++ p.1) (both (mapped option_to_list (mapped (λ x. Some (pre x)) f)) g))
  unfolding mapped both
  woven_some (found x) (found xs) = ap (λ y. found y) (sym (built (pre x) xs))
  woven_some (found x) (unknown at) = refl
  woven_some (unknown at) g = refl

  pub woven_none : (g : Found (List A))
      → mapped build g
      ≡ mapped build (mapped (λ p. p.0 ++ p.1) (both (mapped option_to_list (nothing {A = A})) g))
  unfolding mapped both
  woven_none (found xs) = refl
  woven_none (unknown at) = refl

module _ {A B : Type 0} (build : List A → B) (put : A → B → B)
    (built : (x : A) (xs : List A) → build (x ∷ xs) ≡ put x (build xs)) where
  pub woven_same : (f : Found A) (g : Found (List A))
      → mapped (λ p. put p.0 p.1) (both f (mapped build g))
      ≡ mapped build (mapped (λ p. p.0 ++ p.1) (both (mapped one f) g))
  unfolding mapped both
  woven_same (found x) (found xs) = ap (λ y. found y) (sym (built x xs))
  woven_same (found x) (unknown at) = refl
  woven_same (unknown at) g = refl
