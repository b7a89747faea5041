-- The place of a scope is that of the instance of its file.
use Rattle.std.proofs.Common.{◌≡◌, Bool, false, [], ◌∷◌, Option, Some, None, refl, sym, ap, ap₂, ◌∙◌, subst}
use Rattle.std.specs.Prelude.{◌||◌, option_and_then}
use Rattle.foundation.proofs.Options.{same_some}
use Rattle.arm_value.specs.Json.{Json, null, bool, int, text, array, object}
use Rattle.arm_ids.specs.declared.id.Place.{Place}
use Rattle.reading.specs.Reading.{done, read, continued}
use Rattle.reading.specs.World.{value_in}
use Rattle.deploy_cells.specs.Cells.{Step, step, Position, Cell, World, name}
use Rattle.deploy_cells.specs.Guarded.{Reads}
use Rattle.plan_cells.specs.Scopes as template
use Rattle.plan_cells.specs.Scopes.{own_place}
use Rattle.bicep_emission.specs.Alike.{Seen, seen_in}
use Rattle.bicep_emission.specs.Answered.{IsPlainPlace}
use Rattle.bicep_emission.proofs.SeenLemmas.{value-seen}
use Rattle.bicep_meaning.specs.Instances as source
use Rattle.bicep_meaning.specs.Instances.{place_at}
use Rattle.cell_renaming.specs.Renaming.{Renaming, IsOneToOne, to_position, renamed}
use Rattle.cell_renaming.proofs.OptionLemmas.{of_both, to_both, of_then}
use Rattle.cell_renaming.proofs.ParentLemmas.{renamed_is}

same_deployment : (place : Place) (j : Json) → template.with_deployment place j ≡ source.with_deployment place j
same_deployment place null = refl
same_deployment place (bool b) = refl
same_deployment place (int z) = refl
same_deployment place (text n) = refl
same_deployment place (array js) = refl
same_deployment place (object ms) = refl

by_name : (place : Place) (o : Option Json)
    → option_and_then (λ j. template.with_deployment place j) o
    ≡ option_and_then (λ j. source.with_deployment place j) o
by_name place None = refl
by_name place (Some j) = same_deployment place j

pub named_place : (w : World) (c : Cell) (f : Json → Option Place)
    → value_in w (continued (read c) (λ j. done (f j))) ≡ option_and_then f (w c)
unfolding value_in continued
named_place w c f = by_value (w c)
  where
    by_value : (o : Option Json) → value_in w (continued (done o) (λ j. done (f j))) ≡ option_and_then f o
    by_value None = refl
    by_value (Some j) = refl

module _ (r : Renaming) (i : IsOneToOne r) (w : World) (place : Place) where
  at_root : value_in (renamed r w) (own_place place []) ≡ value_in w (place_at place [])
  unfolding value_in
  at_root = refl

  pub place_same : (p q : Position) → to_position r p ≡ Some q
      → value_in (renamed r w) (own_place place q) ≡ value_in w (place_at place p)
  place_same [] q e =
      subst (λ q. value_in (renamed r w) (own_place place q) ≡ value_in w (place_at place [])) (same_some e) at_root
  place_same (s ∷ p) q e =
      let b = of_both (to_position r p) (r.number p s.resource) (λ q m. step m s.copy ∷ q) q e in
      subst (λ q. value_in (renamed r w) (own_place place q) ≡ value_in w (place_at place (s ∷ p))) b.made
      (named_place (renamed r w) (name b.left (step b.right s.copy)) (λ j. template.with_deployment place j)
      ∙ by_name place (renamed r w (name b.left (step b.right s.copy)))
      ∙ ap (option_and_then (λ j. source.with_deployment place j))
      (renamed_is r i w (name p s) (name b.left (step b.right s.copy))
      (to_both (to_position r p) (r.number p s.resource) (λ q m. name q (step m s.copy)) b.left b.right b.first
      b.second))
      ∙ sym (named_place w (name p s) (λ j. source.with_deployment place j)))

-- ---- names are not marked, by which places are found

-- a reading that reads no marked cell
pub unmarked_seen : {A : Type 0} (w : World) (n : Cell → Bool) (r : Reads A) → (seen_in w n r).1 ≡ false
    → seen_in w n r ≡ (value_in w r, false)
unmarked_seen {A} w n r e = paired (seen_in w n r) (value_in w r) (value-seen w n r) e
  where
    paired : (s : Seen A) (o : Option A) → s.0 ≡ o → s.1 ≡ false → s ≡ (o, false)
    paired (a, b) o h k = ap₂ (λ o b. let s : Seen A = (o, b) in s) h k

module _ (w : World) (n : Cell → Bool) (unmarked : (p : Position) (s : Step) → n (name p s) ≡ false)
    (place : Place) where
  abbrev after_value : (Json → Option Place) → Option Json → Bool → Bool
  after_value f o b = (seen_in w n (continued (done o) (λ j. done (f j)))).1 || b

  no_mark_after : (f : Json → Option Place) (o : Option Json) → after_value f o false ≡ false
  unfolding seen_in continued
  no_mark_after f None = refl
  no_mark_after f (Some j) = refl

  named_unmarked : (p : Position) (s : Step) (f : Json → Option Place)
      → (seen_in w n (continued (read (name p s)) (λ j. done (f j)))).1 ≡ false
  unfolding seen_in continued
  named_unmarked p s f = ap (after_value f (w (name p s))) (unmarked p s) ∙ no_mark_after f (w (name p s))

  pub source_place : (p : Position) → seen_in w n (place_at place p) ≡ (value_in w (place_at place p), false)
  unfolding seen_in
  source_place p = unmarked_seen w n (place_at place p) (by_position p)
    where
      by_position : (p : Position) → (seen_in w n (place_at place p)).1 ≡ false
      by_position [] = refl
      by_position (s ∷ p) = named_unmarked p s (λ j. source.with_deployment place j)

  pub template_place : (q : Position) → seen_in w n (own_place place q) ≡ (value_in w (own_place place q), false)
  unfolding seen_in
  template_place q = unmarked_seen w n (own_place place q) (by_position q)
    where
      by_position : (q : Position) → (seen_in w n (own_place place q)).1 ≡ false
      by_position [] = refl
      by_position (s ∷ q) = named_unmarked q s (λ j. template.with_deployment place j)

-- a place has the subscription and the group of the program
plain_deployment : (place pl : Place) (j : Json) → IsPlainPlace place → source.with_deployment place j ≡ Some pl
    → IsPlainPlace pl
plain_deployment place pl (text n) h e =
    subst IsPlainPlace (same_some e) (record { subscription = h.subscription; group = h.group })
plain_deployment place pl null h e = absurd cc
plain_deployment place pl (bool b) h e = absurd cc
plain_deployment place pl (int z) h e = absurd cc
plain_deployment place pl (array js) h e = absurd cc
plain_deployment place pl (object ms) h e = absurd cc

root_is : (w : World) (place pl : Place) → value_in w (place_at place []) ≡ Some pl → place ≡ pl
unfolding value_in
root_is w place pl e = same_some e

pub plain_place : (w : World) (place pl : Place) (p : Position) → IsPlainPlace place
    → value_in w (place_at place p) ≡ Some pl → IsPlainPlace pl
plain_place w place pl [] h e = subst IsPlainPlace (root_is w place pl e) h
plain_place w place pl (s ∷ p) h e =
    let b = of_then (w (name p s)) (λ j. source.with_deployment place j) pl
    (sym (named_place w (name p s) (λ j. source.with_deployment place j)) ∙ e) in
    plain_deployment place pl b.left h b.made
