-- Cutting a text at its slashes, joining segments again, and folding both.
use Rattle.std.proofs.Common.{◌≡◌, ◌<◌, ℕ, zero, suc, length, get_or, Bool, true, false, ◌||◌, List, [], ◌∷◌, ◌++◌}
use Rattle.std.proofs.Common.{map, refl, sym, ap, ap₂, ◌∙◌, arith, append-nil, true≢false}
use Rattle.std.specs.List.{onto_first, list_any}
use Rattle.std.specs.Char.{to_ascii_lowercase}
use Rattle.std.proofs.lemmas.Bool.Decides.{nat_tests}
use Rattle.std.proofs.lemmas.List.{map-append}
use Rattle.std.proofs.lemmas.List.Splits.{slice_split-cons_yes, slice_split-cons_no}
use Rattle.arm_value.specs.Look.{fold}
use Rattle.arm_ids.specs.Segments.{is_slash, segments, slashed, is_empty, has_slash, firsts, seconds, by_turns}
use Rattle.arm_ids.specs.Segments.{joined}
use Rattle.arm_ids.proofs.TextLemmas.{onto_segments}
use Rattle.foundation.proofs.TruthValues.{or_left, or_right, nor}

slash_is : (c : ℕ) → is_slash c ≡ true → c ≡ 47
slash_is c e = grind (arith, nat_tests)

pub none_in_front : {A : Type 0} (p : A → Bool) (x : A) (xs : List A) → list_any p (x ∷ xs) ≡ false → p x ≡ false
none_in_front p x xs e = or_left (p x) (list_any p xs) e

pub none_after : {A : Type 0} (p : A → Bool) (x : A) (xs : List A) → list_any p (x ∷ xs) ≡ false
    → list_any p xs ≡ false
none_after p x xs e = or_right (p x) (list_any p xs) e

not_at : (s : List ℕ) → has_slash s ≡ false → (k : ℕ) → k < length s → get_or s k 0 ≡ 47 → ⊥
not_at [] e k l h = omega arith
not_at (c ∷ cs) e zero l h = true≢false (sym (ap is_slash h) ∙ none_in_front is_slash c cs e)
not_at (c ∷ cs) e (suc k) l h = not_at cs (none_after is_slash c cs e) k (omega arith) h

-- segments that are joined come apart again
pub segments-slashed : (ss : List (List ℕ)) → list_any has_slash ss ≡ false → segments (slashed ss) ≡ [] ∷ ss
segments-slashed [] e = refl
segments-slashed (s ∷ ss) e =
    slice_split-cons_yes is_slash 47 (s ++ slashed ss) refl
    ∙ ap (λ r. [] ∷ r) (onto_segments s (slashed ss) [] ss (not_at s (none_in_front has_slash s ss e))
    (segments-slashed ss (none_after has_slash s ss e)) ∙ ap (λ t. t ∷ ss) (append-nil s))

onto_cut : (x : ℕ) (ps : List (List ℕ)) → is_slash x ≡ false → list_any has_slash ps ≡ false
    → list_any has_slash (onto_first x ps) ≡ false
onto_cut x [] e h = nor (has_slash (x ∷ [])) false (nor (is_slash x) false e refl) refl
onto_cut x (p ∷ ps) e h =
    nor (has_slash (x ∷ p)) (list_any has_slash ps)
    (nor (is_slash x) (has_slash p) e (none_in_front has_slash p ps h)) (none_after has_slash p ps h)

cut_at : (x : ℕ) (xs : List ℕ) (b : Bool) → is_slash x ≡ b → list_any has_slash (segments xs) ≡ false
    → list_any has_slash (segments (x ∷ xs)) ≡ false
cut_at x xs true e h = ap (list_any has_slash) (slice_split-cons_yes is_slash x xs e) ∙ h
cut_at x xs false e h = ap (list_any has_slash) (slice_split-cons_no is_slash x xs e) ∙ onto_cut x (segments xs) e h

-- no segment has a slash in it
pub segments_cut : (t : List ℕ) → list_any has_slash (segments t) ≡ false
segments_cut [] = refl
segments_cut (x ∷ xs) = cut_at x xs (is_slash x) refl (segments_cut xs)

slashed_onto : (x : ℕ) (xs : List ℕ) (ps : List (List ℕ)) → slashed ps ≡ 47 ∷ xs
    → slashed (onto_first x ps) ≡ 47 ∷ x ∷ xs
slashed_onto x xs [] e = cc
slashed_onto x xs (p ∷ ps) e = let rest : p ++ slashed ps ≡ xs = cc in ap (λ r. 47 ∷ x ∷ r) rest

joined_at : (x : ℕ) (xs : List ℕ) (b : Bool) → is_slash x ≡ b → slashed (segments xs) ≡ 47 ∷ xs
    → slashed (segments (x ∷ xs)) ≡ 47 ∷ x ∷ xs
joined_at x xs true e h = ap slashed (slice_split-cons_yes is_slash x xs e) ∙ ap (λ r. 47 ∷ r) h
    ∙ ap (λ c. 47 ∷ c ∷ xs) (sym (slash_is x e))
joined_at x xs false e h = ap slashed (slice_split-cons_no is_slash x xs e) ∙ slashed_onto x xs (segments xs) h

-- a text is its segments, joined
pub slashed-segments : (t : List ℕ) → slashed (segments t) ≡ 47 ∷ t
slashed-segments [] = refl
slashed-segments (x ∷ xs) = joined_at x xs (is_slash x) refl (slashed-segments xs)

lower-lower : (c : ℕ) → to_ascii_lowercase (to_ascii_lowercase c) ≡ to_ascii_lowercase c
lower-lower c = grind (arith, nat_tests)

is_slash-lower : (c : ℕ) → is_slash (to_ascii_lowercase c) ≡ is_slash c
is_slash-lower c = grind (arith, nat_tests)

pub fold-fold : (s : List ℕ) → fold (fold s) ≡ fold s
fold-fold [] = refl
fold-fold (c ∷ cs) = ap₂ (λ x xs. x ∷ xs) (lower-lower c) (fold-fold cs)

pub all_folded_twice : (ss : List (List ℕ)) → map fold (map fold ss) ≡ map fold ss
all_folded_twice [] = refl
all_folded_twice (s ∷ ss) = ap₂ (λ x xs. x ∷ xs) (fold-fold s) (all_folded_twice ss)

fold_onto : (x : ℕ) (ps : List (List ℕ)) → map fold (onto_first x ps) ≡ onto_first (to_ascii_lowercase x) (map fold ps)
fold_onto x [] = refl
fold_onto x (p ∷ ps) = refl

fold_at : (x : ℕ) (xs : List ℕ) (b : Bool) → is_slash x ≡ b → segments (fold xs) ≡ map fold (segments xs)
    → segments (fold (x ∷ xs)) ≡ map fold (segments (x ∷ xs))
fold_at x xs true e h =
    slice_split-cons_yes is_slash (to_ascii_lowercase x) (fold xs) (is_slash-lower x ∙ e) ∙ ap (λ r. [] ∷ r) h
    ∙ ap (map fold) (sym (slice_split-cons_yes is_slash x xs e))
fold_at x xs false e h =
    slice_split-cons_no is_slash (to_ascii_lowercase x) (fold xs) (is_slash-lower x ∙ e)
    ∙ ap (onto_first (to_ascii_lowercase x)) h ∙ sym (fold_onto x (segments xs))
    ∙ ap (map fold) (sym (slice_split-cons_no is_slash x xs e))

-- folding changes no slash
pub segments-fold : (t : List ℕ) → segments (fold t) ≡ map fold (segments t)
segments-fold [] = refl
segments-fold (x ∷ xs) = fold_at x xs (is_slash x) refl (segments-fold xs)

pub fold-slashed : (ss : List (List ℕ)) → fold (slashed ss) ≡ slashed (map fold ss)
fold-slashed [] = refl
fold-slashed (s ∷ ss) =
    ap (λ r. 47 ∷ r) (map-append to_ascii_lowercase s (slashed ss) ∙ ap (λ r. fold s ++ r) (fold-slashed ss))

pub has_slash-fold : (s : List ℕ) → has_slash (fold s) ≡ has_slash s
has_slash-fold [] = refl
has_slash-fold (c ∷ cs) = ap₂ (λ a b. a || b) (is_slash-lower c) (has_slash-fold cs)

pub is_empty-fold : (s : List ℕ) → is_empty (fold s) ≡ is_empty s
is_empty-fold [] = refl
is_empty-fold (c ∷ cs) = refl

pub any_slash-fold : (ss : List (List ℕ)) → list_any has_slash (map fold ss) ≡ list_any has_slash ss
any_slash-fold [] = refl
any_slash-fold (s ∷ ss) = ap₂ (λ a b. a || b) (has_slash-fold s) (any_slash-fold ss)

pub any_empty-fold : (ss : List (List ℕ)) → list_any is_empty (map fold ss) ≡ list_any is_empty ss
any_empty-fold [] = refl
any_empty-fold (s ∷ ss) = ap₂ (λ a b. a || b) (is_empty-fold s) (any_empty-fold ss)

less : (a b : ℕ) → suc a ≡ suc b → a ≡ b
less a b e = omega arith

-- a list is taken apart by turns and put together
pub by_turns-apart : (ps : List (List ℕ)) → length (firsts ps) ≡ length (seconds ps)
    → by_turns (firsts ps) (seconds ps) ≡ ps
by_turns-apart [] e = refl
by_turns-apart (x ∷ []) e = absurd (omega (arith, e))
by_turns-apart (x ∷ y ∷ ps) e =
    ap (λ r. x ∷ y ∷ r) (by_turns-apart ps (less (length (firsts ps)) (length (seconds ps)) e))

pub firsts-by_turns : (xs ys : List (List ℕ)) → length xs ≡ length ys → firsts (by_turns xs ys) ≡ xs
firsts-by_turns [] [] e = refl
firsts-by_turns [] (y ∷ ys) e = refl
firsts-by_turns (x ∷ xs) [] e = absurd (omega (arith, e))
firsts-by_turns (x ∷ xs) (y ∷ ys) e = ap (λ r. x ∷ r) (firsts-by_turns xs ys (less (length xs) (length ys) e))

pub seconds-by_turns : (xs ys : List (List ℕ)) → length xs ≡ length ys → seconds (by_turns xs ys) ≡ ys
seconds-by_turns [] [] e = refl
seconds-by_turns [] (y ∷ ys) e = absurd (omega (arith, e))
seconds-by_turns (x ∷ xs) [] e = absurd (omega (arith, e))
seconds-by_turns (x ∷ xs) (y ∷ ys) e = ap (λ r. y ∷ r) (seconds-by_turns xs ys (less (length xs) (length ys) e))

pub none_in_turns : (p : List ℕ → Bool) (xs ys : List (List ℕ)) → list_any p xs ≡ false → list_any p ys ≡ false
    → list_any p (by_turns xs ys) ≡ false
none_in_turns p [] ys e f = refl
none_in_turns p (x ∷ xs) [] e f = refl
none_in_turns p (x ∷ xs) (y ∷ ys) e f =
    nor (p x) _ (none_in_front p x xs e)
    (nor (p y) _ (none_in_front p y ys f) (none_in_turns p xs ys (none_after p x xs e) (none_after p y ys f)))

pub map-by_turns : (xs ys : List (List ℕ)) → map fold (by_turns xs ys) ≡ by_turns (map fold xs) (map fold ys)
map-by_turns [] ys = refl
map-by_turns (x ∷ xs) [] = refl
map-by_turns (x ∷ xs) (y ∷ ys) = ap (λ r. fold x ∷ fold y ∷ r) (map-by_turns xs ys)

pub none_in_firsts : (p : List ℕ → Bool) (xs : List (List ℕ)) → list_any p xs ≡ false → list_any p (firsts xs) ≡ false
none_in_firsts p [] e = refl
none_in_firsts p (x ∷ []) e = e
none_in_firsts p (x ∷ y ∷ xs) e =
    let rest = none_after p x (y ∷ xs) e in
    nor (p x) _ (none_in_front p x (y ∷ xs) e) (none_in_firsts p xs (none_after p y xs rest))

pub none_in_seconds : (p : List ℕ → Bool) (xs : List (List ℕ)) → list_any p xs ≡ false → list_any p (seconds xs) ≡ false
none_in_seconds p [] e = refl
none_in_seconds p (x ∷ []) e = refl
none_in_seconds p (x ∷ y ∷ xs) e =
    let rest = none_after p x (y ∷ xs) e in
    nor (p y) _ (none_in_front p y xs rest) (none_in_seconds p xs (none_after p y xs rest))

pub fold-firsts : (xs : List (List ℕ)) → map fold (firsts xs) ≡ firsts (map fold xs)
fold-firsts [] = refl
fold-firsts (x ∷ []) = refl
fold-firsts (x ∷ y ∷ xs) = ap (λ r. fold x ∷ r) (fold-firsts xs)

pub fold-seconds : (xs : List (List ℕ)) → map fold (seconds xs) ≡ seconds (map fold xs)
fold-seconds [] = refl
fold-seconds (x ∷ []) = refl
fold-seconds (x ∷ y ∷ xs) = ap (λ r. fold y ∷ r) (fold-seconds xs)

pub some_joined : (ss : List (List ℕ)) → 0 < length ss → slashed ss ≡ 47 ∷ joined ss
some_joined [] h = absurd (omega (arith, h))
some_joined (s ∷ ss) h = refl

pub same_tail : (xs ys : List ℕ) → 47 ∷ xs ≡ 47 ∷ ys → xs ≡ ys
same_tail xs ys e = cc

pub some_segments : (ss : List (List ℕ)) (t : List ℕ) → slashed ss ≡ 47 ∷ t → 0 < length ss
some_segments [] t e = absurd (cc)
some_segments (s ∷ ss) t e = omega arith
