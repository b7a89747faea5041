-- Loops that make a list, item by item, and stop where one has no value.
use Rattle.std.proofs.Common.{◌≡◌, ◌<◌, ◌≤◌, ◌+◌, ℕ, suc, List, [], ◌∷◌, ◌++◌, length, get_or, drop, map, Option}
use Rattle.std.proofs.Common.{Some, None, option_map, option_and_then, refl, sym, ap, ◌∙◌, append-nil, append_assoc}
use Rattle.std.proofs.Common.{add-one}
use Rattle.std.proofs.Math.Seq.{drop-cons}
use Rattle.std.proofs.lemmas.List.{drop_all}
use Rattle.foundation.specs.Stopping.{Stops}
use Rattle.foundation.specs.declared.stop.Stop.{Stop}
use Rattle.foundation.specs.declared.stop.Stop.TheVariants as stop

-- the values of all items, where each has one
pub all_of : {X B : Type 0} → (X → Option B) → List X → Option (List B)
all_of f [] = Some []
all_of f (x ∷ xs) = option_and_then (λ b. option_map (λ bs. b ∷ bs) (all_of f xs)) (f x)

-- what was made, and what is left to make, are the whole
abbrev pub Rest : {X A B : Type 0} → (A → Option B) → (X → A) → List B → List X → Option (List B) → Type 0
Rest f view done left all = option_map (λ bs. done ++ bs) (all_of f (map view left)) ≡ all

next : {X A : Type 0} (view : X → A) (xs : List X) (i : ℕ) (x : X) → i < length xs → x ≡ get_or xs i x
    → map view (drop i xs) ≡ view x ∷ map view (drop (i + 1) xs)
next view xs i x h e = rw (add-one, drop-cons xs i x h) (ap (λ y. view y ∷ map view (drop (suc i) xs)) (sym e))

none_left : {X A : Type 0} (view : X → A) (xs : List X) (i : ℕ) → length xs ≤ i → map view (drop i xs) ≡ []
none_left view xs i h = ap (map view) (drop_all i xs h)

nothing_before : {B : Type 0} (o : Option (List B)) → option_map (λ bs. [] ++ bs) o ≡ o
nothing_before None = refl
nothing_before (Some bs) = refl

pub rest_begins : {X A B : Type 0} (f : A → Option B) (view : X → A) (xs : List X) (all : Option (List B))
    → all_of f (map view xs) ≡ all → Rest f view [] xs all
rest_begins f view xs all e = nothing_before (all_of f (map view xs)) ∙ e

pushed : {B : Type 0} (done : List B) (b : B) (o : Option (List B))
    → option_map (λ bs. done ++ bs) (option_map (λ bs. b ∷ bs) o) ≡ option_map (λ bs. (done ++ b ∷ []) ++ bs) o
pushed done b None = refl
pushed done b (Some bs) = ap Some (sym (append_assoc done (b ∷ []) bs))

pub rest_more : {X A B : Type 0} (f : A → Option B) (view : X → A) (done more : List B) (b : B) (xs : List X) (i : ℕ)
    (x : X) (all : Option (List B)) → i < length xs → x ≡ get_or xs i x → f (view x) ≡ Some b → more ≡ done ++ b ∷ []
    → Rest f view done (drop i xs) all → Rest f view more (drop (i + 1) xs) all
unfolding all_of
rest_more f view done more b xs i x all h e g n before =
    let step : all_of f (map view (drop i xs)) ≡ option_map (λ bs. b ∷ bs) (all_of f (map view (drop (i + 1) xs))) =
    ap (all_of f) (next view xs i x h e)
    ∙ ap (option_and_then (λ c. option_map (λ bs. c ∷ bs) (all_of f (map view (drop (i + 1) xs))))) g in
    rw n (sym (ap (option_map (λ bs. done ++ bs)) step ∙ pushed done b (all_of f (map view (drop (i + 1) xs))))
    ∙ before)

none_made : {X A B : Type 0} (f : A → Option B) (view : X → A) (done : List B) (xs : List X) (i : ℕ) (x : X)
    (all : Option (List B)) → i < length xs → x ≡ get_or xs i x → f (view x) ≡ None → Rest f view done (drop i xs) all
    → all ≡ None
unfolding all_of
none_made f view done xs i x all h e g before =
    let step : all_of f (map view (drop i xs)) ≡ None =
    ap (all_of f) (next view xs i x h e)
    ∙ ap (option_and_then (λ c. option_map (λ bs. c ∷ bs) (all_of f (map view (drop (i + 1) xs))))) g in
    sym before ∙ ap (option_map (λ bs. done ++ bs)) step

pub rest_stops : {X A B : Type 0} (s : Stop) (f : A → Option B) (view : X → A) (done : List B) (xs : List X) (i : ℕ)
    (x : X) (all : Option (List B)) → i < length xs → x ≡ get_or xs i x → Stops s (f (view x))
    → Rest f view done (drop i xs) all → Stops s all
rest_stops stop.Refused f view done xs i x all h e g before = none_made f view done xs i x all h e g before
rest_stops stop.OutOfMemory f view done xs i x all h e g before = tt

pub rest_ends : {X A B : Type 0} (f : A → Option B) (view : X → A) (done : List B) (xs : List X) (i : ℕ)
    (all : Option (List B)) → length xs ≤ i → Rest f view done (drop i xs) all → all ≡ Some done
unfolding all_of
rest_ends f view done xs i all h before =
    sym before ∙ ap (λ ys. option_map (λ bs. done ++ bs) (all_of f ys)) (none_left view xs i h)
    ∙ ap Some (append-nil done)
