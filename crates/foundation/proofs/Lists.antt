-- Lists: a function of each item, and the item at a place.
use Rattle.std.proofs.Common.{◌≡◌, ◌<◌, ◌+◌, ℕ, suc, List, [], ◌∷◌, ◌++◌, length, get_or, take, drop, map, refl, ap}
use Rattle.std.proofs.Common.{ap₂}
use Rattle.std.proofs.Common.{sym, ◌∙◌, add-one, ◌-◌, arith, zero, ◌≤◌, length-append, append_assoc, length-drop}
use Rattle.std.specs.List.{insert}
use Rattle.std.proofs.Math.Seq.{drop-cons, take-add}
use Rattle.std.proofs.lemmas.List.{take-map, drop-map, map-append, take_all, drop_all}
use Rattle.std.proofs.lemmas.Option.{slice_get_within, get_or_from_slice_get}
use Rattle.std.specs.Prelude.{Contains, slice_get, Some}

-- a list with one item more
pub map-push : {A B : Type 0} (f : A → B) (xs : List A) (x : A) → map f (xs ++ x ∷ []) ≡ map f xs ++ f x ∷ []
map-push f [] x = refl
map-push f (y ∷ ys) x = ap (λ r. f y ∷ r) (map-push f ys x)

-- a list with one item more at a place
pub map-insert : {A B : Type 0} (f : A → B) (xs : List A) (i : ℕ) (x : A)
    → map f (insert xs i x) ≡ insert (map f xs) i (f x)
map-insert f xs i x =
    map-append f (take i xs) (x ∷ drop i xs) ∙ ap₂ (λ a b. a ++ f x ∷ b) (sym (take-map f i xs)) (sym (drop-map f i xs))

-- what is left of a list, from an item of it on
pub next_item : {A : Type 0} (xs : List A) (i : ℕ) (x : A) → i < length xs → x ≡ get_or xs i x
    → drop i xs ≡ x ∷ drop (i + 1) xs
next_item xs i x h e = rw (add-one, drop-cons xs i x h) (ap (λ y. y ∷ drop (suc i) xs) (sym e))

pub next_after : {A : Type 0} (xs : List A) (i : ℕ) (x : A) → i < length xs → x ≡ get_or xs i x
    → drop i xs ≡ x ∷ drop (suc i) xs
next_after xs i x h e = drop-cons xs i x h ∙ ap (λ y. y ∷ drop (suc i) xs) (sym e)

pub got_next : {A : Type 0} (xs : List A) (i : ℕ) (x : A) → slice_get xs i ≡ Some x → drop i xs ≡ x ∷ drop (suc i) xs
got_next xs i x e =
    next_after xs i x (slice_get_within xs i x e) (sym (get_or_from_slice_get xs i x x e))

-- nothing is left from the end on
pub nothing_left : {A : Type 0} (xs : List A) (i : ℕ) → length xs ≤ i → drop i xs ≡ []
nothing_left xs i h = drop_all i xs h

-- what is at a place of a list with one item more
pub got_last : {A : Type 0} (xs : List A) (x : A) → slice_get (xs ++ x ∷ []) (length xs) ≡ Some x
got_last [] x = refl
got_last (y ∷ ys) x = got_last ys x

pub got_before : {A : Type 0} (xs : List A) (x : A) (i : ℕ) → i < length xs
    → slice_get (xs ++ x ∷ []) i ≡ slice_get xs i
got_before [] x i h = absurd (omega (arith, h))
got_before (y ∷ ys) x zero h = refl
got_before (y ∷ ys) x (suc i) h = got_before ys x i (omega (arith, h))

pub map-both : {A B C : Type 0} (f : A → B) (g : B → C) (xs : List A) → map (λ x. g (f x)) xs ≡ map g (map f xs)
map-both f g [] = refl
map-both f g (x ∷ xs) = ap (λ r. g (f x) ∷ r) (map-both f g xs)

pub same_map : (xs : List ℕ) → map (λ x. x) xs ≡ xs
same_map [] = refl
same_map (x ∷ xs) = ap (λ ys. x ∷ ys) (same_map xs)

pub get_new : {A : Type 0} (l : List A) (x d : A) → get_or (l ++ x ∷ []) (length l) d ≡ x
get_new [] x d = refl
get_new (y ∷ l) x d = get_new l x d

pub get_old : {A : Type 0} (l : List A) (x : A) (k : ℕ) (d : A) → k < length l → get_or (l ++ x ∷ []) k d ≡ get_or l k d
get_old [] x k d h = absurd (omega arith)
get_old (y ∷ l) x zero d h = refl
get_old (y ∷ l) x (suc k) d h = get_old l x k d (omega arith)

pub length_more : {A : Type 0} (l : List A) (x : A) → length (l ++ x ∷ []) ≡ length l + 1
length_more [] x = refl
length_more (y ∷ l) x = let r = length_more l x in omega arith

pub contained_further : (x : ℕ) (ms : List ℕ) (y : ℕ) → Contains ms y → Contains (x ∷ ms) y
contained_further x ms y (k, within, here) = (suc k, omega (arith, within), here)

pub tail_within : (a b : List ℕ) → length b ≤ length (a ++ b)
tail_within a b = omega (arith, length-append a b)

pub part_next : (old text middle new : List ℕ) (done n : ℕ) → middle ≡ old ++ take done text
    → new ≡ middle ++ take n (take (length text - done) (drop done text)) → new ≡ old ++ take (done + n) text
part_next old text middle new done n was is =
    is
    ∙ ap (λ (l : List ℕ). middle ++ take n l)
    (take_all (length text - done) (drop done text) (omega (arith, length-drop done text)))
    ∙ ap (λ (l : List ℕ). l ++ take n (drop done text)) was
    ∙ append_assoc old (take done text) (take n (drop done text))
    ∙ ap (λ (l : List ℕ). old ++ l) (sym (take-add done n text))
