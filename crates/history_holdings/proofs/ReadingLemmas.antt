-- Reading an id commutes with folding: a text that is an id of a key is read as this key.
use Rattle.std.proofs.Common.{◌≡◌, ℕ, suc, length, Bool, true, false, ◌&&◌, not, List, [], ◌∷◌, map}
use Rattle.std.proofs.Common.{Some, None, refl, sym, ap, ◌∙◌, bytes_eq}
use Rattle.std.specs.Prelude.{codes, ◌==◌, nat_lt, option_map, if◌then◌else◌}
use Rattle.std.specs.List.{list_any}
use Rattle.std.proofs.lemmas.Bool.{eqb-true}
use Rattle.std.proofs.lemmas.List.{length-map, map-append}
use Rattle.std.proofs.lemmas.Option.{same_Some}
use Rattle.foundation.proofs.TruthValues.{both, of_not}
use Rattle.arm_value.specs.Look.{fold, is_same_folded}
use Rattle.arm_ids.specs.Segments.{segments, is_empty, firsts, seconds}
use Rattle.arm_ids.specs.Id.{folded, text_of, folded_text, named_segments, has_empty_segment, is_whole}
use Rattle.arm_ids.specs.Id.{are_words, if_whole, reading_of, reading, IsIdOf}
use Rattle.arm_ids.specs.declared.id.Place.{Place}
use Rattle.arm_ids.specs.declared.id.ResourceId.{ResourceId}
use Rattle.arm_ids.proofs.SegmentLemmas.{segments-fold, fold-fold, any_empty-fold, fold-firsts, fold-seconds}
use Rattle.arm_ids.proofs.IdLemmas.{made}
use Rattle.arm_ids.proofs.KeyLemmas.{id_of_folded, reads_as_key, is_id_of}
use Rattle.arm_env.specs.Find.{id_key}
use Rattle.deploy_cells.specs.Puts.{id_at, key_at}
use Rattle.history_holdings.specs.Opening.{IsPlainPlace}

-- ---- folded texts are read as folded ids

same_word : (w a : List ℕ) → is_same_folded w (fold a) ≡ is_same_folded w a
same_word w a = ap (bytes_eq (fold w)) (fold-fold a)

words_same : (a b c : List ℕ) → are_words (fold a) (fold b) (fold c) ≡ are_words a b c
words_same a b c =
    λ j. same_word (codes "subscriptions") a j
    && (same_word (codes "resourceGroups") b j && same_word (codes "providers") c j)

named-folded : (i : ResourceId) → named_segments (folded i) ≡ map fold (named_segments i)
named-folded i = ap (λ r. fold i.subscription ∷ fold i.group ∷ r) (sym (map-append fold i.types i.names))

empty_same : (i : ResourceId) → has_empty_segment (folded i) ≡ has_empty_segment i
empty_same i = ap (list_any is_empty) (named-folded i) ∙ any_empty-fold (named_segments i)

whole_same : (i : ResourceId) → is_whole (folded i) ≡ is_whole i
whole_same i =
    λ j. not (empty_same i j)
    && ((length-map i.types fold j == suc (length-map i.names fold j)) && nat_lt 0 (length-map i.names fold j))

folded_if : (b : Bool) (i : ResourceId)
    → (if b then Some (folded i) else None) ≡ option_map folded (if b then Some i else None)
folded_if true i = refl
folded_if false i = refl

whole_folded : (b : Bool) (i : ResourceId) → if_whole b (folded i) ≡ option_map folded (if_whole b i)
whole_folded b i =
    ap (λ v. if b && v then Some (folded i) else None) (whole_same i) ∙ folded_if (b && is_whole i) i

reading_of-fold : (ss : List (List ℕ)) → reading_of (map fold ss) ≡ option_map folded (reading_of ss)
reading_of-fold [] = refl
reading_of-fold ((x ∷ xs) ∷ ss) = refl
reading_of-fold ([] ∷ []) = refl
reading_of-fold ([] ∷ a ∷ []) = refl
reading_of-fold ([] ∷ a ∷ s ∷ []) = refl
reading_of-fold ([] ∷ a ∷ s ∷ b ∷ []) = refl
reading_of-fold ([] ∷ a ∷ s ∷ b ∷ g ∷ []) = refl
reading_of-fold ([] ∷ a ∷ s ∷ b ∷ g ∷ c ∷ []) = refl
reading_of-fold ([] ∷ a ∷ s ∷ b ∷ g ∷ c ∷ provider ∷ rest) =
    (λ j. if_whole (words_same a b c j)
    (record {
      subscription = fold s;
      group = fold g;
      types = fold provider ∷ sym (fold-firsts rest) j;
      names = sym (fold-seconds rest) j;
    }))
    ∙ whole_folded (are_words a b c)
    (record { subscription = s; group = g; types = provider ∷ firsts rest; names = seconds rest })

reading-fold : (t : List ℕ) → reading (fold t) ≡ id_key t
reading-fold t = ap reading_of (segments-fold t) ∙ reading_of-fold (segments t)

-- what is an id of a key is read as the key
pub key_of_id : (t : List ℕ) (k : ResourceId) → IsIdOf t k → id_key t ≡ Some k
key_of_id t k h = sym (reading-fold t) ∙ reads_as_key t k h

pub id_of_read : (t : List ℕ) (k : ResourceId) → id_key t ≡ Some k → IsIdOf t k
id_of_read t k e = is_id_of t k (reading-fold t ∙ e)

-- keys whose texts are the same are the same
pub one_key : (t s : List ℕ) (k l : ResourceId) → IsIdOf t k → IsIdOf s l → folded_text k ≡ folded_text l → k ≡ l
one_key t s k l a b e =
    same_Some k l
    (sym (reads_as_key t k a) ∙ (ap reading (a.spelled ∙ (e ∙ sym b.spelled)) ∙ reads_as_key s l b))

-- ---- whole ids are ids of keys

pub id_of_whole : (place : Place) (kind title : List ℕ) → IsPlainPlace place → is_whole (id_at place kind title) ≡ true
    → IsIdOf (text_of (id_at place kind title)) (key_at place kind title)
id_of_whole place kind title plain e =
    let i : ResourceId = id_at place kind title in
    let a = both (not (has_empty_segment i))
    ((length i.types == suc (length i.names)) && nat_lt 0 (length i.names)) e in
    let b = both (length i.types == suc (length i.names)) (nat_lt 0 (length i.names)) a.1 in
    id_of_folded i (made i kind title refl refl (of_not (has_empty_segment i) a.0) (eqb-true _ _ b.0))
    (record { subscription = plain.subscription; group = plain.group })
