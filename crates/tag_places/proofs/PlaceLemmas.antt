-- First places, as one place more is added.
use Rattle.std.proofs.Common.{◌≡◌, ℕ, zero, suc, Bool, true, false, true≢false, List, [], ◌∷◌, ◌++◌, length, bytes_eq}
use Rattle.std.proofs.Common.{cond, Option, Some, None, refl, sym, ap, subst, ◌∙◌}
use Rattle.std.specs.Prelude.{option_map, if◌then◌else◌}
use Rattle.std.specs.declared.vec.Vec.{Vec}
use Rattle.std.specs.declared.alloc.Global.{Global}
use Rattle.std.specs.BTreeMap.{get, is_at, Updates}
use Rattle.std.proofs.lemmas.Map.Text.{is_eq-slice_cmp}
use Rattle.std.proofs.lemmas.Slice.Eq.{bytes_eq-Decides}
use Rattle.foundation.proofs.Words.{swapped}
use Rattle.tag_places.specs.Places.{Tag, is_tag, first_place, tag_cmp, Places, ArePlaces}

-- the place that there is, or else this one
abbrev or_place : Option ℕ → Option ℕ → Option ℕ
or_place (Some n) o = Some n
or_place None o = o

abbrev last_place : Bool → ℕ → Option ℕ
last_place b n = if b then Some n else None

suc_or : (o : Option ℕ) (b : Bool) (n : ℕ)
    → option_map (λ m. suc m) (or_place o (last_place b n))
    ≡ or_place (option_map (λ m. suc m) o) (last_place b (suc n))
suc_or (Some m) b n = refl
suc_or None true n = refl
suc_or None false n = refl

one_more : (t : Tag) (os : List (Option Tag)) (o : Option Tag)
    → first_place t (os ++ o ∷ []) ≡ or_place (first_place t os) (last_place (is_tag t o) (length os))
one_more t [] o = by_test (is_tag t o)
  where
    by_test : (b : Bool) → (if b then Some zero else option_map (λ n. suc n) None) ≡ or_place None (last_place b 0)
    by_test true = refl
    by_test false = refl
one_more t (x ∷ os) o = by_test (one_more t os o) (is_tag t x)
  where
    by_test : first_place t (os ++ o ∷ []) ≡ or_place (first_place t os) (last_place (is_tag t o) (length os))
        → (b : Bool) → (if b then Some zero else option_map (λ n. suc n) (first_place t (os ++ o ∷ [])))
        ≡ or_place (if b then Some zero else option_map (λ n. suc n) (first_place t os))
        (last_place (is_tag t o) (suc (length os)))
    by_test more true = refl
    by_test more false = ap (option_map (λ n. suc n)) more ∙ suc_or (first_place t os) (is_tag t o) (length os)

no_more : (o : Option ℕ) (n : ℕ) → or_place o (last_place false n) ≡ o
no_more (Some m) n = refl
no_more None n = refl

there_already : (o : Option ℕ) (m : ℕ) (b : Bool) (n : ℕ) → o ≡ Some m → or_place o (last_place b n) ≡ o
there_already o m b n e = rw e refl

pub untagged : (m : Places) (os : List (Option Tag)) → ArePlaces m os → ArePlaces m (os ++ None ∷ [])
untagged m os h = λ t. h t ∙ sym (one_more t.items os None ∙ no_more (first_place t.items os) (length os))

-- a tag that has a place already
pub has_place : (m : Places) (os : List (Option Tag)) (tag : Vec ℕ Global) (place : ℕ) → ArePlaces m os
    → first_place tag.items os ≡ Some place → ArePlaces m (os ++ Some tag.items ∷ [])
has_place m os tag place h e = λ t.
    h t ∙ sym (one_more t.items os (Some tag.items) ∙ by_test t (bytes_eq t.items tag.items) refl)
  where
    by_test : (t : Vec ℕ Global) (b : Bool) → bytes_eq t.items tag.items ≡ b
        → or_place (first_place t.items os) (last_place b (length os)) ≡ first_place t.items os
    by_test t true f =
        there_already (first_place t.items os) place true (length os)
        (ap (λ u. first_place u os) ((bytes_eq-Decides t.items tag.items).0 f) ∙ e)
    by_test t false f = no_more (first_place t.items os) (length os)

-- a tag that had none
pub new_place : (m n : Places) (os : List (Option Tag)) (tag : Vec ℕ Global) (place : ℕ) → ArePlaces m os
    → place ≡ length os → first_place tag.items os ≡ None → Updates tag_cmp m n tag (Some place)
    → ArePlaces n (os ++ Some tag.items ∷ [])
new_place m n os tag place h p e u = λ t.
    u.0 t
    ∙ ap (λ b. cond b (Some place) (get tag_cmp m t))
    (is_eq-slice_cmp tag.items t.items ∙ swapped tag.items t.items)
    ∙ by_test t (bytes_eq t.items tag.items) refl
    ∙ sym (one_more t.items os (Some tag.items))
  where
    by_test : (t : Vec ℕ Global) (b : Bool) → bytes_eq t.items tag.items ≡ b
        → cond b (Some place) (get tag_cmp m t) ≡ or_place (first_place t.items os) (last_place b (length os))
    by_test t true f =
        ap (λ k. Some k) p
        ∙ sym (ap (λ o. or_place o (Some (length os)))
        (ap (λ s. first_place s os) ((bytes_eq-Decides t.items tag.items).0 f) ∙ e))
    by_test t false f = h t ∙ sym (no_more (first_place t.items os) (length os))
