-- Where a search for a place ends.
use Rattle.std.proofs.Common.{◌≡◌, ◌<◌, ◌≤◌, ◌+◌, ℕ, zero, suc, List, [], ◌∷◌, ◌++◌, length, get_or, take, drop, Ok}
use Rattle.std.proofs.Common.{Err}
use Rattle.std.proofs.Common.{Less, Equal, Greater, sym, ap, ◌∙◌, subst, arith, length-drop, add-zero}
use Rattle.std.proofs.lemmas.List.{take_more, take_all, get_or-drop, get_or_read}
use Rattle.lock_rules.specs.Places.{place_cmp}
use Rattle.lock_rules.specs.Searches.{IsAbove, IsFound}
use Rattle.lock_rules.specs.declared.place.Place.{Place}

above_push : (place : Place) (others : List Place) (x : Place) → IsAbove place others → place_cmp place x ≡ Greater
    → IsAbove place (others ++ x ∷ [])
above_push place [] x h e = (e, tt)
above_push place (o ∷ os) x h e = (h.0, above_push place os x h.1 e)

pub above_more : (place : Place) (places : List Place) (i : ℕ) (x : Place) → i < length places → x ≡ get_or places i x
    → IsAbove place (take i places) → place_cmp place x ≡ Greater → IsAbove place (take (i + 1) places)
above_more place places i x h is above e =
    subst (IsAbove place) (sym (take_more places i x h ∙ ap (λ y. take i places ++ y ∷ []) (sym is)))
    (above_push place (take i places) x above e)

pub found_equal : (place : Place) (places : List Place) (i : ℕ) (x : Place) → i < length places → x ≡ get_or places i x
    → IsAbove place (take i places) → place_cmp place x ≡ Equal → IsFound place places (Ok i)
found_equal place places i x h is above e =
    (h, above, λ d. ap (place_cmp place) (sym (get_or_read places i x h is d)) ∙ e)

pub found_less : (place : Place) (places : List Place) (i : ℕ) (x : Place) → i < length places → x ≡ get_or places i x
    → IsAbove place (take i places) → place_cmp place x ≡ Less → IsFound place places (Err i)
found_less place places i x h is above e = (omega arith, above, first)
  where
    first : (k : ℕ) (d : Place) → k < length (drop i places) → k < 1
        → place_cmp place (get_or (drop i places) k d) ≡ Less
    first zero d l m =
        ap (place_cmp place) (get_or-drop i places 0 d ∙ ap (λ n. get_or places n d) (add-zero i)
        ∙ sym (get_or_read places i x h is d)) ∙ e
    first (suc k) d l m = absurd (omega arith)

pub found_none : (place : Place) (places : List Place) (i : ℕ) → length places ≤ i → IsAbove place (take i places)
    → IsFound place places (Err (length places))
found_none place places i h above = (omega arith, whole, none)
  where
    whole : IsAbove place (take (length places) places)
    whole =
        subst (IsAbove place) (take_all i places h ∙ sym (take_all (length places) places (omega arith))) above

    none : (k : ℕ) (d : Place) → k < length (drop (length places) places) → k < 1
        → place_cmp place (get_or (drop (length places) places) k d) ≡ Less
    none k d l m = absurd (omega (arith, length-drop (length places) places))
