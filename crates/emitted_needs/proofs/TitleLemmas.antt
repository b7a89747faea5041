-- Texts of `dependsOn`: ids begin with a slash, and names of symbols and of resources do not.
use Rattle.std.proofs.Common.{◌≡◌, ℕ, Bool, true, false, true≢false, List, [], ◌∷◌, ◌++◌, None}
use Rattle.std.proofs.Common.{refl, sym, ap, ◌∙◌, subst, bytes_eq, codes, arith}
use Rattle.std.specs.Prelude.{◌==◌, option_map}
use Rattle.std.specs.List.{list_any}
use Rattle.std.specs.Char.{to_ascii_lowercase}
use Rattle.std.specs.Fmt.{decimal}
use Rattle.foundation.proofs.Words.{eq_word}
use Rattle.foundation.proofs.TruthValues.{or_false, unless}
use Rattle.arm_value.specs.Look.{fold, is_same_folded}
use Rattle.arm_ids.specs.Id.{text_of, folded, path, reading_of}
use Rattle.arm_ids.specs.Segments.{segments, slashed, joined, is_empty, has_slash}
use Rattle.arm_ids.specs.declared.id.ResourceId.{ResourceId}
use Rattle.arm_ids.proofs.SegmentLemmas.{none_in_front, segments_cut, slashed-segments, same_tail, has_slash-fold}
use Rattle.arm_env.specs.Find.{id_key}
use Rattle.arm_eval.specs.Titles.{element}
use Rattle.arm_expr.specs.Grammar.{IsName, GoOnName, letter, goes_on_name, kind_of}

-- a text that does not begin with a slash, and is not empty
pub record BeginsPlain (t : List ℕ) : Type 0 where
  pub first : ℕ
  pub rest : List ℕ
  pub is : t ≡ first ∷ rest
  pub is_plain : (first == 47) ≡ false

-- a letter that folds to a slash is one
fold_slash : (a : ℕ) → (to_ascii_lowercase a == 47) ≡ (a == 47)
fold_slash a =
    sym (or_false (to_ascii_lowercase a == 47)) ∙ has_slash-fold (a ∷ []) ∙ or_false (a == 47)

same_first : (a b : ℕ) (xs ys : List ℕ) → a ∷ xs ≡ b ∷ ys → a ≡ b
same_first a b xs ys e = cc

slash_is : (47 == 47) ≡ true
slash_is = refl

-- ---- a text that begins with a slash is no other

pub not_same : (t r x : List ℕ) → t ≡ 47 ∷ r → BeginsPlain x → is_same_folded t x ≡ false
not_same t r x e h =
    unless (is_same_folded t x)
    (λ k. let a : fold (47 ∷ r) ≡ fold (h.first ∷ h.rest) =
    sym (ap fold e) ∙ eq_word (fold t) (fold x) k ∙ ap fold h.is in
    let b : to_ascii_lowercase 47 ≡ to_ascii_lowercase h.first =
    same_first (to_ascii_lowercase 47) (to_ascii_lowercase h.first) (fold r) (fold h.rest) a in
    true≢false
    (sym slash_is ∙ sym (fold_slash 47) ∙ ap (λ c. c == 47) b ∙ fold_slash h.first ∙ h.is_plain))

-- ---- what begins plain

name_letter : (a : ℕ) → kind_of a ≡ letter → (a == 47) ≡ true → ⊥
name_letter a e k =
    let c : a ≡ 47 = grind (arith, k) in
    let d : kind_of 47 ≡ letter = ap kind_of (sym c) ∙ e in cc

pub name_begins : (x : List ℕ) → IsName x → BeginsPlain x
name_begins [] h = absurd h
name_begins (c ∷ cs) h =
    record { first = c; rest = cs; is = refl; is_plain = unless (c == 47) (name_letter c h.0) }

-- a segment that is not empty and has no slash
segment_begins : (s more : List ℕ) → is_empty s ≡ false → has_slash s ≡ false → BeginsPlain (s ++ more)
segment_begins [] more e h = absurd (true≢false e)
segment_begins (c ∷ cs) more e h =
    record { first = c; rest = cs ++ more; is = refl; is_plain = none_in_front (λ c. c == 47) c cs h }

begins_by : (t : List ℕ) (ss : List (List ℕ)) → slashed ss ≡ 47 ∷ t → list_any is_empty ss ≡ false
    → list_any has_slash ss ≡ false → BeginsPlain t
begins_by t [] e h k = absurd cc
begins_by t (s ∷ ss) e h k =
    subst BeginsPlain (same_tail (s ++ slashed ss) t e)
    (segment_begins s (slashed ss) (none_in_front is_empty s ss h) (none_in_front has_slash s ss k))

pub filled_begins : (t : List ℕ) → list_any is_empty (segments t) ≡ false → BeginsPlain t
filled_begins t h = begins_by t (segments t) (slashed-segments t) h (segments_cut t)

pub longer_begins : (t more : List ℕ) → BeginsPlain t → BeginsPlain (t ++ more)
longer_begins t more h =
    record { first = h.first; rest = h.rest ++ more; is = ap (λ t. t ++ more) h.is; is_plain = h.is_plain }

pub joined_begins : (s : List ℕ) (ss : List (List ℕ)) → is_empty s ≡ false → has_slash s ≡ false
    → BeginsPlain (joined (s ∷ ss))
joined_begins s ss h k = segment_begins s (slashed ss) h k

-- ---- ids

pub id_slash : (i : ResourceId) → (r : List ℕ) × (text_of i ≡ 47 ∷ r)
unfolding text_of
id_slash i = (
  codes "subscriptions"
      ++ slashed (i.subscription ∷ codes "resourceGroups" ∷ i.group ∷ codes "providers" ∷ path i.types i.names),
  refl,
)

-- a text that does not begin with a slash is no id
no_reading : (x : List ℕ) (ss : List (List ℕ)) → slashed ss ≡ 47 ∷ x → BeginsPlain x → reading_of ss ≡ None
no_reading x [] e h = absurd cc
no_reading x ((c ∷ cs) ∷ ss) e h = refl
no_reading x ([] ∷ []) e h = refl
no_reading x ([] ∷ (s ∷ ss)) e h =
    let a : 47 ∷ (s ++ slashed ss) ≡ x = same_tail (47 ∷ (s ++ slashed ss)) x e in
    let b : 47 ≡ h.first = same_first 47 h.first (s ++ slashed ss) h.rest (a ∙ h.is) in
    absurd (true≢false (sym slash_is ∙ ap (λ c. c == 47) b ∙ h.is_plain))

pub no_id : (x : List ℕ) → BeginsPlain x → id_key x ≡ None
no_id x h = ap (option_map folded) (no_reading x (segments x) (slashed-segments x) h)

-- ---- elements of symbols

no_bracket : (xs rest : List ℕ) → GoOnName (xs ++ 91 ∷ rest) → ⊥
no_bracket [] rest h = let d : goes_on_name (kind_of 91) ≡ true = h.0 in true≢false (sym d)
no_bracket (c ∷ cs) rest h = no_bracket cs rest h.1

pub not_element : (t x : List ℕ) (i : ℕ) → IsName t → IsName x → bytes_eq t (element x i) ≡ false
not_element t [] i h k = absurd k
not_element t (c ∷ cs) i h k =
    unless (bytes_eq t (element (c ∷ cs) i))
    (λ e. no_bracket cs (decimal i ++ 93 ∷ [])
    (subst IsName (eq_word t (element (c ∷ cs) i) e) h).1)
