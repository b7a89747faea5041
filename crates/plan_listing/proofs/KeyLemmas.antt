-- The key of a nested deployment, by its name.
use Rattle.std.proofs.Common.{◌≡◌, ℕ, ◌<◌, Bool, true, false, List, [], ◌∷◌, ◌++◌, map, length, refl}
use Rattle.std.proofs.Common.{sym, ap}
use Rattle.std.proofs.Common.{◌∙◌, arith}
use Rattle.std.specs.Prelude.{◌&&◌, bytes_eq, Some, None}
use Rattle.std.specs.List.{list_any}
use Rattle.std.proofs.lemmas.List.{map-append}
use Rattle.std.proofs.lemmas.Slice.Eq.{bytes_eq-Decides}
use Rattle.std.specs.Char.{to_ascii_lowercase}
use Rattle.arm_value.specs.Look.{fold, is_same_folded}
use Rattle.arm_ids.specs.Id.{IsKey}
use Rattle.arm_ids.specs.Members.{is_deployment_type, deployment_type}
use Rattle.arm_ids.specs.Segments.{segments, slashed, joined, has_slash, is_slash}
use Rattle.arm_ids.specs.declared.id.Place.{Place}
use Rattle.arm_ids.specs.declared.id.ResourceId.{ResourceId}
use Rattle.arm_ids.proofs.SegmentLemmas.{segments-slashed, slashed-segments, segments-fold, fold-slashed, some_joined}
use Rattle.arm_ids.proofs.SegmentLemmas.{same_tail}
use Rattle.std.proofs.lemmas.List.Splits.{slice_split-cons_yes}
use Rattle.foundation.proofs.TruthValues.{both_ways}
use Rattle.foundation.proofs.Words.{swapped}
use Rattle.deploy_cells.specs.Same.{same_texts}
use Rattle.plan_listing.specs.Hits.{is_at, fits, is_wanted}
use Rattle.deploy_cells.proofs.SameLemmas.{texts_same, texts_are}

-- ---- segments that are joined

tail_is : (xs ys : List (List ℕ)) → [] ∷ xs ≡ [] ∷ ys → xs ≡ ys
tail_is xs ys e = cc

-- a text is its segments, joined
pub joined_segments : (ss : List (List ℕ)) (t : List ℕ) → segments t ≡ ss → 0 < length ss → joined ss ≡ t
joined_segments ss t e h =
    same_tail (joined ss) t (sym (some_joined ss h) ∙ ap slashed (sym e) ∙ slashed-segments t)

-- segments without slashes come apart again
segments_joined : (ss : List (List ℕ)) → 0 < length ss → list_any has_slash ss ≡ false → segments (joined ss) ≡ ss
segments_joined ss h c =
    tail_is (segments (joined ss)) ss
    (sym (slice_split-cons_yes is_slash 47 (joined ss) refl) ∙ ap segments (sym (some_joined ss h))
    ∙ segments-slashed ss c)

-- whether these are the segments of a text in small letters
same_joined : (ss : List (List ℕ)) (n : List ℕ) → 0 < length ss → list_any has_slash ss ≡ false
    → fold (joined ss) ≡ joined ss → same_texts ss (map fold (segments n)) ≡ is_same_folded n (joined ss)
same_joined ss n h c f =
    both_ways (same_texts ss (map fold (segments n))) (is_same_folded n (joined ss))
    (λ e. (bytes_eq-Decides (fold n) (fold (joined ss))).1
    (sym (joined_segments ss (fold n) (segments-fold n ∙ sym (texts_are ss (map fold (segments n)) e)) h) ∙ sym f))
    (λ e.
    let is : fold n ≡ joined ss = (bytes_eq-Decides (fold n) (fold (joined ss))).0 e ∙ f in
    let same : ss ≡ map fold (segments n) =
    sym (segments_joined ss h c) ∙ ap segments (sym is) ∙ segments-fold n in
    ap (λ xs. same_texts ss xs) (sym same) ∙ texts_same ss)

pub fold_joined : (ss : List (List ℕ)) → fold (joined ss) ≡ joined (map fold ss)
fold_joined [] = refl
fold_joined (s ∷ ss) = map-append to_ascii_lowercase s (slashed ss) ∙ ap (λ r. fold s ++ r) (fold-slashed ss)

small_joined : (ss : List (List ℕ)) → map fold ss ≡ ss → fold (joined ss) ≡ joined ss
small_joined ss e = fold_joined ss ∙ ap joined e

-- ---- keys

-- a part of a key is in small letters
part_same : (x y : List ℕ) → fold y ≡ y → bytes_eq y (fold x) ≡ is_same_folded x y
part_same x y e = swapped y (fold x) ∙ ap (bytes_eq (fold x)) (sym e)

module _ (k : ResourceId) (place : Place) (h : IsKey k) where
  small_types : map fold k.types ≡ k.types
  small_types = ap (λ (i : ResourceId). i.types) h.is_folded

  small_names : map fold k.names ≡ k.names
  small_names = ap (λ (i : ResourceId). i.names) h.is_folded

  types_listed : 0 < length k.types
  types_listed = let e = h.is_id.paired in omega (arith, e)

  by_names : (n : List ℕ)
      → is_at k place n
      ≡ (is_same_folded place.subscription k.subscription
      && (is_same_folded place.group k.group
      && (is_same_folded deployment_type (joined k.types) && is_same_folded n (joined k.names))))
  by_names n =
      rw (
        part_same place.subscription k.subscription (ap (λ (i : ResourceId). i.subscription) h.is_folded),
        part_same place.group k.group (ap (λ (i : ResourceId). i.group) h.is_folded),
        same_joined k.types deployment_type types_listed h.is_id.types_cut (small_joined k.types small_types),
        same_joined k.names n h.is_id.named h.is_id.names_cut (small_joined k.names small_names),
      ) refl

  and_all : (a b c d : Bool) → (a && (b && (c && d))) ≡ ((a && (b && c)) && d)
  and_all true true c d = refl
  and_all true false c d = refl
  and_all false b c d = refl

  by_fits : (n : List ℕ) → is_at k place n ≡ (fits k place && is_same_folded n (joined k.names))
  unfolding is_deployment_type
  by_fits n = by_names n
      ∙ and_all (is_same_folded place.subscription k.subscription) (is_same_folded place.group k.group)
      (is_same_folded deployment_type (joined k.types)) (is_same_folded n (joined k.names))

  -- the name that is wanted, where the key fits
  pub wanted_there : (w : List ℕ) → fits k place ≡ true → w ≡ joined k.names → (n : List ℕ)
      → is_at k place n ≡ is_wanted (Some w) n
  wanted_there w e f n =
      by_fits n ∙ ap (λ b. b && is_same_folded n (joined k.names)) e ∙ ap (is_same_folded n) (sym f)

  pub wanted_nowhere : fits k place ≡ false → (n : List ℕ) → is_at k place n ≡ is_wanted None n
  wanted_nowhere e n = by_fits n ∙ ap (λ b. b && is_same_folded n (joined k.names)) e

-- tests that agree
pub one_test : (f g : List ℕ → Bool) → ((n : List ℕ) → f n ≡ g n) → f ≡ g
one_test f g h = λ i n. h n i
