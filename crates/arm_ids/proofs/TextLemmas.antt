-- Texts as bytes and as characters: folding, and the segments between slashes.
use Rattle.std.proofs.Common.{◌≡◌, ◌<◌, ℕ, suc, length, get_or, Bool, true, false, ◌&&◌, eqb, ne_eqb, List, []}
use Rattle.std.proofs.Common.{◌∷◌, ◌++◌, map, chars, IsUtf8, refl, sym, ap, ap₂, ◌∙◌, arith, append-nil, cond, eq-eqb}
use Rattle.std.proofs.Common.{true≢false, lit<, Bor}
use lib.Utf8.{scalar, scalars, encode, encodes}
use Rattle.std.specs.List.{slice_split, onto_first}
use Rattle.std.proofs.lemmas.List.Splits.{slice_split-cons_yes, slice_split-cons_no}
use Rattle.std.proofs.lemmas.Str.{encodes-chars, encodes_same, encode_ascii, inside_one, chars-encodes, chars-append}
use Rattle.std.proofs.lemmas.Str.{scalars-chars, chars-nil}
use Rattle.std.proofs.lemmas.Bool.Decides.{nat_tests}
use Rattle.foundation.proofs.TruthValues.{second_of_both}
use Rattle.arm_value.specs.Look.{fold}
use Rattle.arm_value.proofs.TextLemmas.{fold-chars}
use Rattle.arm_ids.specs.Segments.{is_slash, segments}

-- folding the bytes of a text folds its characters
pub folded_chars : (cs bs : List ℕ) → IsUtf8 bs → encodes cs ≡ fold bs → cs ≡ fold (chars bs)
folded_chars cs bs u e = encodes_same cs (fold (chars bs)) (e ∙ fold-chars bs u)

no_slash_in : (c : ℕ) → (c ≡ 47 → ⊥) → (k : ℕ) → k < length (encode c) → get_or (encode c) k 0 ≡ 47 → ⊥
no_slash_in c ne k l e =
    ne (inside_one c [] (encode c) k (sym (append-nil (encode c))) l (omega (arith, e)) ∙ e)

-- a front without a slash goes onto the first segment
pub onto_segments : (xs ys p : List ℕ) (ps : List (List ℕ)) → ((k : ℕ) → k < length xs → get_or xs k 0 ≡ 47 → ⊥)
    → segments ys ≡ p ∷ ps → segments (xs ++ ys) ≡ (xs ++ p) ∷ ps
onto_segments [] ys p ps h e = e
onto_segments (x ∷ xs) ys p ps h e =
    slice_split-cons_no is_slash x (xs ++ ys) (ne_eqb x 47 (h 0 (omega arith)))
    ∙ ap (onto_first x) (onto_segments xs ys p ps (λ k l. h (suc k) (omega arith)) e)

onto_some : (x : ℕ) (ps : List (List ℕ)) → (p : List ℕ) × (qs : List (List ℕ)) × (onto_first x ps ≡ p ∷ qs)
onto_some x [] = (x ∷ [], [], refl)
onto_some x (p ∷ ps) = (x ∷ p, ps, refl)

some_at : (b : Bool) (x : ℕ) (ps : List (List ℕ)) → (p : List ℕ) × (qs : List (List ℕ))
    × (cond b ([] ∷ ps) (onto_first x ps) ≡ p ∷ qs)
some_at true x ps = ([], ps, refl)
some_at false x ps = onto_some x ps

-- every text has a first segment
pub some_segment : (xs : List ℕ) → (p : List ℕ) × (ps : List (List ℕ)) × (segments xs ≡ p ∷ ps)
some_segment [] = ([], [], refl)
some_segment (x ∷ xs) = some_at (is_slash x) x (segments xs)

valid_first : (c : ℕ) (cs : List ℕ) → scalars (c ∷ cs) ≡ true → scalars (c ∷ []) ≡ true
valid_first c cs e = valid (scalar c) (scalars cs) e
  where
    valid : (a b : Bool) → (a && b) ≡ true → (a && true) ≡ true
    valid true b e = refl
    valid false b e = e

valid_rest : (c : ℕ) (cs : List ℕ) → scalars (c ∷ cs) ≡ true → scalars cs ≡ true
valid_rest c cs e = second_of_both (scalar c) (scalars cs) e

one : (c : ℕ) → encodes (c ∷ []) ≡ encode c
one c = append-nil (encode c)

chars_onto : (c : ℕ) (p : List ℕ) → scalars (c ∷ []) ≡ true → chars (encode c ++ p) ≡ c ∷ chars p
chars_onto c p v =
    chars-append (encode c) p (c ∷ [], (v, one c))
    ∙ ap (λ cs. cs ++ chars p) (ap chars (sym (one c)) ∙ chars-encodes (c ∷ []) v)

segments_by : (c : ℕ) (cs : List ℕ) (b : Bool) → is_slash c ≡ b → scalars (c ∷ cs) ≡ true
    → map chars (segments (encodes cs)) ≡ segments cs → map chars (segments (encodes (c ∷ cs))) ≡ segments (c ∷ cs)
segments_by c cs true e v h =
    let slash : c ≡ 47 = grind (arith, nat_tests) in
    ap (λ bs. map chars (segments (bs ++ encodes cs))) (ap encode slash ∙ encode_ascii 47 (lit< tt))
    ∙ ap₂ (λ s ss. s ∷ ss) chars-nil h ∙ sym (slice_split-cons_yes is_slash c cs e)
segments_by c cs false e v h =
    let some = some_segment (encodes cs) in
    let first = some.0 in
    let others = some.1 in
    let split : segments (encodes cs) ≡ first ∷ others = some.2 in
    let no : c ≡ 47 → ⊥ = (λ s. true≢false (sym (eq-eqb c 47 s) ∙ e)) in
    ap (map chars) (onto_segments (encode c) (encodes cs) first others (no_slash_in c no) split)
    ∙ ap (λ s. s ∷ map chars others) (chars_onto c first (valid_first c cs v))
    ∙ ap (onto_first c) (sym (ap (map chars) split) ∙ h) ∙ sym (slice_split-cons_no is_slash c cs e)

segments-encodes : (cs : List ℕ) → scalars cs ≡ true → map chars (segments (encodes cs)) ≡ segments cs
segments-encodes [] v = ap (λ s. s ∷ []) chars-nil
segments-encodes (c ∷ cs) v = segments_by c cs (is_slash c) refl v (segments-encodes cs (valid_rest c cs v))

-- the segments of a text by its bytes are those by its characters
pub segments-chars : (bs : List ℕ) → IsUtf8 bs → map chars (segments bs) ≡ segments (chars bs)
segments-chars bs u = ap (λ b. map chars (segments b)) (sym (encodes-chars bs u))
    ∙ segments-encodes (chars bs) (scalars-chars bs u)

map_twice : (xs : List (Bor (List ℕ)))
    → map (λ (x : Bor (List ℕ)). chars x.now) xs ≡ map chars (map (λ (x : Bor (List ℕ)). x.now) xs)
map_twice [] = refl
map_twice (x ∷ xs) = ap (λ r. chars x.now ∷ r) (map_twice xs)

pub parts_are : (xs : List (Bor (List ℕ))) (bs : List ℕ) → IsUtf8 bs
    → map (λ (x : Bor (List ℕ)). x.now) xs ≡ slice_split (λ b. eqb b 47) bs
    → map (λ (x : Bor (List ℕ)). chars x.now) xs ≡ segments (chars bs)
parts_are xs bs u e = map_twice xs ∙ ap (map chars) e ∙ segments-chars bs u
