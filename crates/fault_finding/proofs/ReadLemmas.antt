-- What is told of the value of a cell, and of its reading.
use Rattle.std.proofs.Common.{◌≡◌, ℕ, ◌<◌, Bool, true, false, true≢false, length, Option, Some, None, refl, sym, ap}
use Rattle.std.proofs.Common.{◌∙◌}
use Rattle.arm_value.specs.Json.{Json}
use Rattle.arm_value.specs.View.{json}
use Rattle.arm_value.specs.declared.value.Value as code
use Rattle.arm_ids.specs.declared.id.ResourceId.{ResourceId}
use Rattle.reading.specs.Reading.{pure}
use Rattle.reading.specs.Knowledge.{Told, value, no_value, waits, known, absent, told, and_then}
use Rattle.deploy_cells.specs.Cells.{Cell}
use Rattle.deploy_cells.specs.Guarded.{Reads, there, there_if}
use Rattle.plan_cells.specs.Known.{entry_told}
use Rattle.plan_cells.specs.Meaning.{meaning, rule}
use Rattle.plan_filling.specs.Rows.{Status, New, Open, Value, Empty, Late, row_at, status_of}
use Rattle.plan_filling.specs.Sound as sound
use Rattle.plan_filling.specs.Sound.{IsLate}
use Rattle.plan_filling.specs.Steps.{Filled}
use Rattle.plan_filling.specs.declared.sheet.Answer.TheVariants as answer
use Rattle.plan_table.specs.declared.table.Table.{Table}
use Rattle.plan_table.specs.declared.line.Spot.{Spot}
use Rattle.plan_table.specs.Lines.{cell_of, line_at}
use Rattle.plan_table.specs.Whole.{whole_of, scopes_of, rows_in}
use Rattle.plan_sight.specs.Ready.{IsReady, told_in}
use Rattle.plan_sight.proofs.ToldLemmas.{told_pure, goes}
use Rattle.plan_sight.proofs.LookLemmas.{listed_row}
use Rattle.plan_start.specs.Values.{told_raw}
use Rattle.plan_start.proofs.AnswerLemmas.{rule_met, told_answer}
use Rattle.plan_settling.specs.Refused.{is_refused}
use Rattle.lack_faults.proofs.RowLemmas.{listed}

-- ---- back from what is told of a value to its reading

abbrev wrapped : Told Cell Json → Told Cell (Option Json)
wrapped u = and_then u (λ v. value (Some v))

value_back : (u : Told Cell Json) (j : Json) → wrapped u ≡ value (Some j) → u ≡ value j
value_back (value v) j e = let same : v ≡ j = cc in ap value same
value_back no_value j e = absurd (cc)
value_back (waits c) j e = absurd (cc)

none_back : (u : Told Cell Json) → wrapped u ≡ no_value → u ≡ no_value
none_back (value v) e = absurd (cc)
none_back no_value e = refl
none_back (waits c) e = absurd (cc)

waits_back : (u : Told Cell Json) (c : Cell) → wrapped u ≡ waits c → u ≡ waits c
waits_back (value v) c e = absurd (cc)
waits_back no_value c e = absurd (cc)
waits_back (waits d) c e = let same : d ≡ c = cc in ap waits same

nothing_back : (u : Told Cell Json) → wrapped u ≡ value None → ⊥
nothing_back (value v) e = cc
nothing_back no_value e = cc
nothing_back (waits c) e = cc

-- the cell has a reading of which this is told
pub record IsRead (t : Table) (o : Option (Reads Json)) (u : Told Cell Json) : Type 0 where
  pub reading : Reads Json
  pub is : o ≡ Some reading
  pub is_told : told_in t reading ≡ u

module _ (t : Table) where
  each : (u : Told Cell Json) → and_then u (λ v. told_in t (pure (Some v))) ≡ wrapped u
  each (value v) = told_pure t (Some v)
  each no_value = refl
  each (waits c) = refl

  there_told : (r : Reads Json) → told_in t (there r) ≡ wrapped (told_in t r)
  there_told r = goes t r (λ v. pure (Some v)) ∙ each (told_in t r)

  pub read_value : (o : Option (Reads Json)) (j : Json) → told_in t (there_if o) ≡ value (Some j) → IsRead t o (value j)
  read_value None j e = absurd (let no : value None ≡ value (Some j) = sym (told_pure t None) ∙ e in cc)
  read_value (Some r) j e =
      record { reading = r; is = refl; is_told = value_back (told_in t r) j (sym (there_told r) ∙ e) }

  pub read_none : (o : Option (Reads Json)) → told_in t (there_if o) ≡ no_value → IsRead t o no_value
  read_none None e = absurd (let no : value None ≡ no_value = sym (told_pure t None) ∙ e in cc)
  read_none (Some r) e = record { reading = r; is = refl; is_told = none_back (told_in t r) (sym (there_told r) ∙ e) }

  pub read_waits : (o : Option (Reads Json)) (c : Cell) → told_in t (there_if o) ≡ waits c → IsRead t o (waits c)
  read_waits None c e = absurd (let no : value None ≡ waits c = sym (told_pure t None) ∙ e in cc)
  read_waits (Some r) c e =
      record { reading = r; is = refl; is_told = waits_back (told_in t r) c (sym (there_told r) ∙ e) }

  pub read_nothing : (o : Option (Reads Json)) → told_in t (there_if o) ≡ value None → o ≡ None
  read_nothing None e = refl
  read_nothing (Some r) e = absurd (nothing_back (told_in t r) (sym (there_told r) ∙ e))

-- ---- a line for which there is no plan

module _ (t : Table) (at : ℕ) (ready : IsReady t) (filled : Filled (whole_of t) (rows_in t))
    (h : at < length t.lines.items) (refused : is_refused (row_at (rows_in t) at) ≡ true) where
  abbrev spot : Spot
  spot = (line_at t.lines.items at).spot

  abbrev c : Cell
  c = (row_at (rows_in t) at).cell

  has_status : (s : Status) → (row_at (rows_in t) at).status ≡ s → status_of (rows_in t) c ≡ Some s
  has_status s e =
      listed (whole_of t) (rows_in t) filled.sound at (listed_row t at h) ∙ ap Some e

  late_waits : (k : ResourceId) (j : Json) → IsLate (whole_of t) (status_of (rows_in t)) c k
      → told_in t (meaning (whole_of t) c) ≡ value (Some j) → ⊥
  late_waits k j (sound.here e l s w) v = let no = sym w ∙ v in cc
  late_waits k j (sound.further e f l s w i) v = let no = sym w ∙ v in cc

  by_status : (s : Status) → (row_at (rows_in t) at).status ≡ s → (j : Json)
      → told_in t (meaning (whole_of t) c) ≡ value (Some j) → ⊥
  by_status (Late k) e j v = late_waits k j (filled.sound.good.late c k (has_status (Late k) e)) v
  by_status Empty e j v =
      let no : known j ≡ absent = sym (ap entry_told v) ∙ filled.sound.good.tells_empty c (has_status Empty e) in cc
  by_status (Value w) e j v =
      true≢false (sym refused ∙ ap (λ s. is_refused (record { cell = c; status = s })) e)
  by_status New e j v = true≢false (sym refused ∙ ap (λ s. is_refused (record { cell = c; status = s })) e)
  by_status Open e j v = true≢false (sym refused ∙ ap (λ s. is_refused (record { cell = c; status = s })) e)

  -- the value that is read for it breaks its rule
  pub breaks : (v : code.Value) → told_raw t spot ≡ value (Some (json v))
      → rule (whole_of t) (cell_of (scopes_of t) spot) (json v) ≡ false
  breaks v told = by_rule (rule (whole_of t) (cell_of (scopes_of t) spot) (json v)) refl
    where
      by_rule : (b : Bool) → rule (whole_of t) (cell_of (scopes_of t) spot) (json v) ≡ b
          → rule (whole_of t) (cell_of (scopes_of t) spot) (json v) ≡ false
      by_rule false e = e
      by_rule true e =
          absurd (by_status (row_at (rows_in t) at).status refl (json v)
          (told_answer t at ready h (answer.Value v) (rule_met t spot v true (sym e) refl told)))
