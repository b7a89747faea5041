-- Keys whose tags are shared are the same.
use Rattle.std.proofs.Common.{◌≡◌, ℕ, zero, suc, true, List, [], ◌∷◌, map, Option, Some, None, refl}
use Rattle.std.proofs.Common.{sym, ap, ap₂, subst, ◌∙◌}
use Rattle.std.specs.Prelude.{slice_get, bytes_eq, MatchOption}
use Rattle.arm_ids.specs.declared.id.ResourceId.{ResourceId}
use Rattle.deploy_cells.proofs.SameLemmas.{id_is, id_same}
use Rattle.tag_needs.specs.Tags.{Tag, shares, IsShared}
use Rattle.key_tags.specs.KeyCodes.{key_code}
use Rattle.key_tags.specs.SameKeys.{AreSame}
use Rattle.key_tags.proofs.CodeLemmas.{key_eq}
use Rattle.foundation.proofs.TruthValues.{or_false_twice}
use Rattle.foundation.proofs.Options.{same_some}

abbrev tags_by : List ResourceId → List (List Tag)
tags_by ks = map (λ k. key_code k ∷ []) ks

record IsKeyAt (ks : List ResourceId) (i : ℕ) (ts : List Tag) : Type 0 where
  key : ResourceId
  there : slice_get ks i ≡ Some key
  is : key_code key ∷ [] ≡ ts

key_at : (ks : List ResourceId) (i : ℕ) (ts : List Tag) → slice_get (tags_by ks) i ≡ Some ts → IsKeyAt ks i ts
key_at [] i ts e = let no : None ≡ Some ts = e in absurd (cc)
key_at (k ∷ ks) zero ts e = record { key = k; there = refl; is = same_some e }
key_at (k ∷ ks) (suc i) ts e = let r = key_at ks i ts e in record { key = r.key; there = r.there; is = r.is }

tag_at : (ks : List ResourceId) (i : ℕ) (k : ResourceId) → slice_get ks i ≡ Some k
    → slice_get (tags_by ks) i ≡ Some (key_code k ∷ [])
tag_at [] i k e = let no : None ≡ Some k = e in absurd (cc)
tag_at (l ∷ ks) zero k e = ap (λ (x : ResourceId). Some (key_code x ∷ [])) (same_some e)
tag_at (l ∷ ks) (suc i) k e = tag_at ks i k e

pub keys_same : (ks : List ResourceId) (i j : ℕ) → IsShared (tags_by ks) i j → AreSame ks i j
keys_same ks i j s =
    let a = key_at ks i s.first s.is_first in
    let b = key_at ks j s.second s.is_second in
    let shared : shares (key_code a.key ∷ []) (key_code b.key ∷ []) ≡ true = ap₂ shares a.is b.is ∙ s.share in
    let same : a.key ≡ b.key =
    id_is a.key b.key (sym (key_eq a.key b.key)
    ∙ sym (or_false_twice (bytes_eq (key_code a.key) (key_code b.key))) ∙ shared) in
    record { below = s.below; key = a.key; is_first = a.there; is_second = b.there ∙ ap Some (sym same) }

pub keys_shared : (ks : List ResourceId) (i j : ℕ) → AreSame ks i j → IsShared (tags_by ks) i j
keys_shared ks i j s = record {
  below = s.below;
  first = key_code s.key ∷ [];
  second = key_code s.key ∷ [];
  is_first = tag_at ks i s.key s.is_first;
  is_second = tag_at ks j s.key s.is_second;
  share = or_false_twice (bytes_eq (key_code s.key) (key_code s.key)) ∙ key_eq s.key s.key ∙ id_same s.key;
}

pub same_found : (ks : List ResourceId) (tags : List (List Tag)) (o : Option (ℕ × ℕ)) → tags ≡ tags_by ks
    → MatchOption o (Unit {0}) (λ p. IsShared tags p.0 p.1) → MatchOption o (Unit {0}) (λ p. AreSame ks p.0 p.1)
same_found ks tags None e h = tt
same_found ks tags (Some p) e h = keys_same ks p.0 p.1 (subst (λ ts. IsShared ts p.0 p.1) e h)

pub none_found : (ks : List ResourceId) (tags : List (List Tag)) (o : Option (ℕ × ℕ)) → tags ≡ tags_by ks
    → MatchOption o ((i j : ℕ) → IsShared tags i j → ⊥) (λ _. Unit {0})
    → MatchOption o ((i j : ℕ) → AreSame ks i j → ⊥) (λ _. Unit {0})
none_found ks tags None e h = λ i j s. h i j (subst (λ ts. IsShared ts i j) (sym e) (keys_shared ks i j s))
none_found ks tags (Some p) e h = tt
