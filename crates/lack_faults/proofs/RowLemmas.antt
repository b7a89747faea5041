-- What the rows of a sheet say of the start.
use Rattle.std.proofs.Common.{◌≡◌, ◌⊎◌, inl, inr, ℕ, ◌<◌, true, List, length, Option, Some, None}
use Rattle.std.proofs.Common.{refl, ap, ◌∙◌}
use Rattle.arm_value.specs.Json.{Json}
use Rattle.arm_ids.specs.declared.id.ResourceId.{ResourceId}
use Rattle.reading.specs.Knowledge.{known, absent, blanked, known_value}
use Rattle.deploy_cells.specs.Cells.{Cell}
use Rattle.deploy_cells.specs.Cells.{parent, admits, admitted, is_admitted}
use Rattle.plan_cells.specs.Known as knowing
use Rattle.plan_cells.specs.Meaning.{Deployment}
use Rattle.plan_cells.specs.Children.{Has, roots}
use Rattle.plan_cells.proofs.ChildLemmas.{root_is, child_is}
use Rattle.plan_filling.specs.Rows.{Status, New, Open, Value, Empty, Late, Row, row_at, status_of, table, known_by}
use Rattle.plan_filling.specs.Sound as sound
use Rattle.plan_filling.specs.Sound.{Sound, IsLate, IsOpenedBy}
use Rattle.plan_filling.specs.Final as final
use Rattle.plan_filling.specs.Final.{Leads}
use Rattle.plan_filling.proofs.RowLemmas.{status_found}
use Rattle.plan_faults.specs.Known.{AreKnown}

-- ---- what is known

by_known : (o : Option Status) (v : Json) → known_by o ≡ known v → o ≡ Some (Value v)
by_known (Some (Value w)) v e = let same : w ≡ v = cc in ap (λ x. Some (Value x)) same
by_known (Some New) v e = absurd (cc)
by_known (Some Open) v e = absurd (cc)
by_known (Some Empty) v e = absurd (cc)
by_known (Some (Late k)) v e = absurd (cc)
by_known None v e = absurd (cc)

by_absent : (o : Option Status) → known_by o ≡ absent → o ≡ Some Empty
by_absent (Some Empty) e = refl
by_absent (Some (Value w)) e = absurd (cc)
by_absent (Some New) e = absurd (cc)
by_absent (Some Open) e = absurd (cc)
by_absent (Some (Late k)) e = absurd (cc)
by_absent None e = absurd (cc)

pub known_rows : (d : Deployment) (rows : List Row) → Sound d rows → AreKnown d (table (status_of rows))
known_rows d rows s c (Some v) e = s.good.valued c v (by_known (status_of rows c) v e)
known_rows d rows s c None e = s.good.empty c (by_absent (status_of rows c) e)

-- ---- rows

module _ (d : Deployment) (rows : List Row) (s : Sound d rows) (j : ℕ) (h : j < length rows) where
  abbrev q : knowing.Table
  q = table (status_of rows)

  abbrev c : Cell
  c = (row_at rows j).cell

  pub listed : status_of rows c ≡ Some (row_at rows j).status
  listed = status_found rows j s.distinct h

  there_by : (o : Option Cell) → parent c ≡ o → admitted (blanked q) c o ≡ true → is_admitted (blanked q) c ≡ true
  there_by o e a = ap (admitted (blanked q) c) e ∙ a

  of_known : (e : Cell) (v : Json) → status_of rows e ≡ Some (Value v) → blanked q e ≡ Some v
  of_known e v k = ap (λ o. known_value (known_by o)) k

  by_origin : Has c (roots d) ⊎ IsOpenedBy d (status_of rows) c → is_admitted (blanked q) c ≡ true
  by_origin (inl r) = there_by None (root_is d c r).0 refl
  by_origin (inr o) =
      let i = child_is d o.0 o.1.0 c o.1.1.1 in
      there_by (Some o.0) i.has_parent (ap (admits c) (of_known o.0 o.1.0 o.1.1.0) ∙ i.admitted)

  -- a cell that is listed is there
  pub row_there : is_admitted (blanked q) c ≡ true
  row_there = by_origin (s.good.is_there c (row_at rows j).status listed)

-- a late cell leads to its state
pub late_leads : (d : Deployment) (σ : Cell → Option Status) (c : Cell) (k : ResourceId) → IsLate d σ c k
    → Leads d (table σ) c k
late_leads d σ c k (sound.here e l h t) = final.here c k t
late_leads d σ c k (sound.further e f l h t i) = final.further c f k t (late_leads d σ f k i)
