-- What is told of parameters and variables that have to be there.
use Rattle.std.proofs.Common.{◌≡◌, inl, inr, List, [], ◌∷◌, map, Option, Some, None, refl, ap, ◌∙◌, sym}
use Rattle.std.specs.Prelude.{option_map}
use Rattle.arm_value.specs.Json.{Json}
use Rattle.reading.specs.Reading.{done}
use Rattle.reading.specs.Knowledge.{absent, Told, value, no_value, waits, told, finished, and_then}
use Rattle.reading.proofs.Parts.{told-continued}
use Rattle.deploy_cells.specs.Cells.{Cell}
use Rattle.deploy_cells.specs.Guarded.{Reads}
use Rattle.plan_cells.specs.Known as knowledge
use Rattle.plan_cells.specs.Known.{entry_told}
use Rattle.plan_cells.specs.Meaning.{Deployment, plain}
use Rattle.plan_cells.specs.Children.{Has}
use Rattle.deploy_histories.specs.Values.{a_cell, demanded, entry_value}
use Rattle.deploy_histories.specs.Readiness.{fault_or, first_fault}

module _ (s : knowledge.Table) (r : Reads (Option Json)) where
  abbrev gives : Option Json → Told Cell (Option Json)
  gives o = finished (option_map Some o)

  demanded_is : told s (demanded r) ≡ and_then (told s r) gives
  unfolding told
  demanded_is = told-continued Cell Json (Option Json) (Option Json) s r (λ o. done (option_map Some o))

  pub demanded_value : (j : Json) → told s r ≡ value (Some j) → told s (demanded r) ≡ value (Some j)
  demanded_value j e = demanded_is ∙ ap (λ z. and_then z gives) e

  pub demanded_waits : (c : Cell) → told s r ≡ waits c → told s (demanded r) ≡ waits c
  demanded_waits c e = demanded_is ∙ ap (λ z. and_then z gives) e

  by_told : (z : Told Cell (Option Json)) → entry_told z ≡ absent → and_then z gives ≡ no_value
  by_told (value (Some j)) a = absurd (cc)
  by_told (value None) a = refl
  by_told no_value a = refl
  by_told (waits c) a = absurd (cc)

  pub demanded_nothing : entry_told (told s r) ≡ absent → told s (demanded r) ≡ no_value
  demanded_nothing a = demanded_is ∙ by_told (told s r) a

  waits_here : (z : Told Cell (Option Json)) (c : Cell) → and_then z gives ≡ waits c → z ≡ waits c
  waits_here (value (Some j)) c e = absurd (cc)
  waits_here (value None) c e = absurd (cc)
  waits_here no_value c e = absurd (cc)
  waits_here (waits d) c e = ap waits (awaits_one d c e)
    where
      awaits_one : (d c : Cell) → and_then (waits d) gives ≡ waits c → d ≡ c
      awaits_one d c e = cc

  pub demanded_awaits : (c : Cell) → told s (demanded r) ≡ waits c → told s r ≡ waits c
  demanded_awaits c e = waits_here (told s r) c (sym demanded_is ∙ e)

-- where each has a value, none is at fault
module _ (d : Deployment) (s : knowledge.Table) where
  pub no_fault : (cs : List Cell)
      → ((c : Cell) → Has c cs → (j : Json) × (told s (plain d c) ≡ value (Some j)))
      → first_fault d s (map (entry_value d) cs) ≡ None
  no_fault [] h = refl
  no_fault (c ∷ cs) h =
      let a = h c (inl refl) in
      ap (λ z. fault_or d s (a_cell c) z (first_fault d s (map (entry_value d) cs)))
      (demanded_value s (plain d c) a.0 a.1) ∙ no_fault cs (λ e i. h e (inr i))
