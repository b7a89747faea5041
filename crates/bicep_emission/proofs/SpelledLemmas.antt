-- A function is found by its name in the usual case of its letters as by its name in small letters.
use Rattle.std.proofs.Common.{◌≡◌, ℕ, List, [], ◌∷◌, Option, Some, None, Bool, true, false, codes, refl, sym, ap, ◌∙◌}
use Rattle.std.specs.Prelude.{◌&&◌, ◌||◌, not, bytes_eq, is_some, if◌then◌else◌}
use Rattle.std.specs.List.{list_any}
use Rattle.foundation.proofs.Words.{eq_word}
use Rattle.arm_value.specs.Json.{Json}
use Rattle.arm_value.specs.Look.{fold, is_same_folded, is_among}
use Rattle.arm_ids.specs.declared.id.Place.{Place}
use Rattle.bicep_meaning.specs.Table.{Row, table, row_in, row_of}
use Rattle.bicep_meaning.specs.Values as functions
use Rattle.expression_values.specs.Names.{placed_named}
use Rattle.expression_values.specs.Strict.{Strict}
use Rattle.expression_values.specs.Strict.TheVariants as strict
use Rattle.reading.specs.Reading.{done, continued}
use Rattle.bicep_meaning.specs.Guarded.{Reads}
use Rattle.bicep_meaning.specs.Functions.{reserved, may_call}
use Rattle.bicep_meaning.specs.Rows.{all, value_by, coalesced, called}
use Rattle.bicep_emission.specs.Spelled.{capitals, spelling_in, spelled_or, spelled}

-- ---- spelling changes the case of letters alone

found_by : (name w : List ℕ) (b : Bool) → is_same_folded name w ≡ b → (o : Option (List ℕ))
    → fold (spelled_or name o) ≡ fold name → fold (spelled_or name (if b then Some w else o)) ≡ fold name
found_by name w true e o h = sym (eq_word (fold name) (fold w) e)
found_by name w false e o h = h

found_in : (name : List ℕ) (ws : List (List ℕ)) → fold (spelled_or name (spelling_in name ws)) ≡ fold name
unfolding spelling_in
found_in name [] = refl
found_in name (w ∷ ws) =
    found_by name w (is_same_folded name w) refl (spelling_in name ws) (found_in name ws)

pub spelled_folds : (name : List ℕ) → fold (spelled name) ≡ fold name
spelled_folds name = found_in name capitals

-- ---- names that differ in the case of letters alone

module _ (n m : List ℕ) (e : fold n ≡ fold m) where
  same_among : (ws : List (List ℕ)) → list_any (is_same_folded n) ws ≡ list_any (is_same_folded m) ws
  same_among [] = refl
  same_among (w ∷ ws) =
      ap (λ f. bytes_eq f (fold w) || list_any (is_same_folded n) ws) e
      ∙ ap (λ b. is_same_folded m w || b) (same_among ws)

  same_rows : (rs : List Row) → row_in n rs ≡ row_in m rs
  unfolding row_in
  same_rows [] = refl
  same_rows (r ∷ rs) =
      ap (λ f. if bytes_eq f (fold r.0) then Some (r.1, r.2, r.3) else row_in n rs) e
      ∙ ap (λ o. if is_same_folded m r.0 then Some (r.1, r.2, r.3) else o) (same_rows rs)

  pub same_called_by_files : may_call n ≡ may_call m
  unfolding may_call
  same_called_by_files =
      ap (λ b. not b && is_some (row_of n)) (same_among reserved)
      ∙ ap (λ o. not (is_among reserved m) && is_some o) (same_rows table)

  same_placed : placed_named n ≡ placed_named m
  unfolding placed_named
  same_placed =
      ap (λ f. if bytes_eq (fold (codes "resourceId")) f then Some strict.ResourceId
      else if bytes_eq (fold (codes "subscriptionResourceId")) f then Some strict.SubscriptionResourceId
      else if bytes_eq (fold (codes "resourceGroup")) f then Some strict.ResourceGroup
      else if bytes_eq (fold (codes "subscription")) f then Some strict.Subscription
      else if bytes_eq (fold (codes "deployment")) f then Some strict.Deployment else None) e

  same_value : (place : Place) (o : Option Strict) (vs : List Json) → value_by place n o vs ≡ value_by place m o vs
  same_value place (Some f) vs = refl
  same_value place None vs = ap (λ o. functions.value_by o vs) (same_rows table)

  each_value : (place : Place) (vs : List Json)
      → value_by place n (placed_named n) vs ≡ value_by place m (placed_named m) vs
  each_value place vs = ap (λ o. value_by place n o vs) same_placed ∙ same_value place (placed_named m) vs

  pub same_called : (place : Place) (rs : List (Reads Json)) → called place n rs ≡ called place m rs
  unfolding called
  same_called place rs =
      ap (λ f. if bytes_eq (fold (codes "coalesce")) f then coalesced rs
      else continued (all rs) (λ vs. done (value_by place n (placed_named n) vs))) e
      ∙ ap (λ r. if is_same_folded (codes "coalesce") m then coalesced rs else r)
      (λ i. continued (all rs) (λ vs. done (each_value place vs i)))
