-- Only names that no two members have need be kept.
use Rattle.std.proofs.Common.{◌≡◌, ◌||◌, ◌&&◌, ℕ, Bool, true, false, true≢false, List, [], ◌∷◌, ◌++◌, Option, Some}
use Rattle.std.proofs.Common.{None}
use Rattle.std.proofs.Common.{refl, ap, ap₂, sym, ◌∙◌, if◌then◌else◌, bytes_eq, ◌+◌, ◌<◌, length, drop, get_or, map}
use Rattle.std.proofs.lemmas.List.{at_drop_more}
use Rattle.std.proofs.lemmas.List.Folds.{list_any-append}
use Rattle.std.proofs.lemmas.Slice.Eq.{bytes_eq-Decides}
use Rattle.arm_value.specs.Json.{Json, Pairs, no_pairs, pair, pairs}
use Rattle.arm_value.specs.View.{json, member}
use Rattle.arm_value.specs.declared.value.Field.{Field}
use Rattle.arm_value.specs.Look.{fold, is_same_folded}
use Rattle.name_set.specs.Names.{is_named}
use Rattle.template_parts.specs.declared.fault.TemplateFault.{TemplateFault}
use Rattle.template_parts.specs.declared.fault.TemplateFault.TheVariants.{WrongForm}
use Rattle.template_values.specs.Order.{then_members}
use Rattle.template_values.specs.declared.order.Faulty.{Faulty}
use Rattle.template_members.specs.Objects.{Single, Rule, member_by, faulty_by, with_single}

-- two lists have the same names of which there is one
abbrev SameSingle : Single → List (List ℕ) → List (List ℕ) → Type 0
SameSingle S xs ys = (j : List ℕ) → S j ≡ true → is_named xs j ≡ is_named ys j

same_member : (S : Single) (R : Rule) (xs ys : List (List ℕ)) → SameSingle S xs ys → (k : List ℕ) (v : Json)
    → member_by S R xs k v ≡ member_by S R ys k v
same_member S R xs ys h k v = by (S k) refl
  where
    by : (b : Bool) → S k ≡ b → member_by S R xs k v ≡ member_by S R ys k v
    by true e = ap (λ n. if S k && n then Some (WrongForm []) else R k v) (h k e)
    by false e =
        ap (λ b. if b && is_named xs k then Some (WrongForm []) else R k v) e
        ∙ sym (ap (λ b. if b && is_named ys k then Some (WrongForm []) else R k v) e)

same_after : (S : Single) (xs ys : List (List ℕ)) (k : List ℕ) → SameSingle S xs ys
    → SameSingle S (xs ++ k ∷ []) (ys ++ k ∷ [])
same_after S xs ys k h j e =
    list_any-append (λ other. is_same_folded j other) xs (k ∷ [])
    ∙ ap (λ b. b || is_named (k ∷ []) j) (h j e)
    ∙ sym (list_any-append (λ other. is_same_folded j other) ys (k ∷ []))

same_faulty : (S : Single) (R : Rule) (xs ys : List (List ℕ)) → SameSingle S xs ys → (ms : Pairs)
    → faulty_by S R xs ms ≡ faulty_by S R ys ms
same_faulty S R xs ys h no_pairs = refl
same_faulty S R xs ys h (pair k v ms) =
    ap₂ (λ o rest. then_members k o rest) (same_member S R xs ys h k v)
    (same_faulty S R (xs ++ k ∷ []) (ys ++ k ∷ []) (same_after S xs ys k h) ms)

-- a name of which there may be more is no other's
left_out : (S : Single) → ((j k : List ℕ) → fold j ≡ fold k → S j ≡ S k) → (xs : List (List ℕ)) (k : List ℕ)
    → S k ≡ false → SameSingle S (xs ++ k ∷ []) xs
left_out S folds xs k out j e =
    list_any-append (λ other. is_same_folded j other) xs (k ∷ []) ∙ by (is_same_folded j k) refl
  where
    last : (b : Bool) → (b || (false || false)) ≡ b
    last true = refl
    last false = refl

    by : (b : Bool) → is_same_folded j k ≡ b → (is_named xs j || (is_same_folded j k || false)) ≡ is_named xs j
    by true f =
        absurd (true≢false (sym e ∙ folds j k ((bytes_eq-Decides (fold j) (fold k)).0 f) ∙ out))
    by false f = ap (λ b. is_named xs j || (b || false)) f ∙ last (is_named xs j)

-- what is kept finds what all names find
pub kept_names : (S : Single) (R : Rule) → ((j k : List ℕ) → fold j ≡ fold k → S j ≡ S k) → (xs : List (List ℕ))
    (k : List ℕ) (ms : Pairs) → faulty_by S R (xs ++ k ∷ []) ms ≡ faulty_by S R (with_single S xs k) ms
kept_names S R folds xs k ms = by (S k) refl
  where
    by : (b : Bool) → S k ≡ b → faulty_by S R (xs ++ k ∷ []) ms ≡ faulty_by S R (with_single S xs k) ms
    by true e = sym (ap (λ b. faulty_by S R (if b then xs ++ k ∷ [] else xs) ms) e)
    by false e =
        same_faulty S R (xs ++ k ∷ []) xs (left_out S folds xs k e) ms
        ∙ sym (ap (λ b. faulty_by S R (if b then xs ++ k ∷ [] else xs) ms) e)

-- a member that is not refused
pub next_member : (S : Single) (R : Rule) → ((j k : List ℕ) → fold j ≡ fold k → S j ≡ S k) → (all : Option Faulty)
    (xs after : List (List ℕ)) (fs : List Field) (i : ℕ) (f : Field) (o : Option TemplateFault)
    → all ≡ faulty_by S R xs (pairs (map member (drop i fs))) → i < length fs → f ≡ get_or fs i f
    → o ≡ member_by S R xs f.name (json f.value) → o ≡ None → after ≡ with_single S xs f.name
    → all ≡ faulty_by S R after (pairs (map member (drop (i + 1) fs)))
next_member S R folds all xs after fs i f o a h is e s m =
    let rest = pairs (map member (drop (i + 1) fs)) in
    a ∙ at_drop_more (λ ds. faulty_by S R xs (pairs (map member ds))) fs i f h
    ∙ ap (λ (g : Field). faulty_by S R xs (pairs (map member (g ∷ drop (i + 1) fs)))) (sym is)
    ∙ ap (λ p. then_members f.name p (faulty_by S R (xs ++ f.name ∷ []) rest)) (sym e ∙ s)
    ∙ kept_names S R folds xs f.name rest
    ∙ ap (λ ns. faulty_by S R ns rest) (sym m)
