-- What is answered of a cell, by what is told of its value.
use Rattle.std.proofs.Common.{◌≡◌, ℕ, ◌<◌, Bool, true, false, length, Option, Some, None, Result, Ok, Err}
use Rattle.std.proofs.Common.{refl, sym, ap, ◌∙◌}
use Rattle.std.specs.Prelude.{option_map, IfOk}
use Rattle.arm_value.specs.Json.{Json}
use Rattle.arm_value.specs.View.{json}
use Rattle.arm_value.specs.declared.value.Value.{Value}
use Rattle.reading.specs.Reading.{done, pure}
use Rattle.reading.specs.Knowledge.{Told, value, no_value, waits, absent, finished, and_then}
use Rattle.deploy_cells.specs.Cells.{Cell}
use Rattle.deploy_cells.specs.Guarded.{Reads, there, there_if}
use Rattle.plan_cells.specs.Known.{entry_told}
use Rattle.plan_cells.specs.Meaning.{Deployment, meaning, plain, raw, rule, ruled, if_meets}
use Rattle.plan_filling.specs.Rows.{row_at}
use Rattle.plan_filling.specs.Sound.{Tells}
use Rattle.plan_filling.specs.declared.sheet.Answer.{Answer}
use Rattle.plan_filling.specs.declared.sheet.Answer.TheVariants as answer
use Rattle.plan_table.specs.declared.table.Table.{Table}
use Rattle.plan_table.specs.declared.line.Spot.{Spot}
use Rattle.plan_table.specs.declared.line.Spot.TheVariants as spot
use Rattle.plan_table.specs.Lines.{cell_of, line_at}
use Rattle.plan_table.specs.Whole.{whole_of, scopes_of, rows_in}
use Rattle.plan_sight.specs.Ready.{IsReady, told_in}
use Rattle.plan_sight.proofs.LookLemmas.{cell_of_row}
use Rattle.plan_sight.proofs.ToldLemmas.{told_listed, told_pure, told_done, goes}
use Rattle.plan_values.specs.Values.{told_raw}
use Rattle.plan_start.specs.Sheets.{IsAnswer}

-- ---- by what is told of the reading of a value

module _ (t : Table) (d : Deployment) (f : Json → Bool) where
  abbrev raw_by : Told Cell Json → Told Cell (Option Json)
  raw_by u = and_then u (λ v. value (Some v))

  abbrev plain_by : Told Cell Json → Told Cell (Option Json)
  plain_by u = raw_by (and_then u (λ j. finished (if_meets d (f j) j)))

  each_there : (u : Told Cell Json) → and_then u (λ v. told_in t (pure (Some v))) ≡ raw_by u
  each_there (value v) = told_pure t (Some v)
  each_there no_value = refl
  each_there (waits c) = refl

  each_ruled : (u : Told Cell Json) → and_then u (λ j. told_in t (done (if_meets d (f j) j)))
      ≡ and_then u (λ j. finished (if_meets d (f j) j))
  each_ruled (value j) = told_done t (if_meets d (f j) j)
  each_ruled no_value = refl
  each_ruled (waits c) = refl

  raw_is : (r : Reads Json) → told_in t (there r) ≡ raw_by (told_in t r)
  raw_is r = goes t r (λ v. pure (Some v)) ∙ each_there (told_in t r)

  plain_is : (r : Reads Json) → told_in t (there (ruled d f r)) ≡ plain_by (told_in t r)
  plain_is r =
      raw_is (ruled d f r)
      ∙ ap raw_by (goes t r (λ j. done (if_meets d (f j) j)) ∙ each_ruled (told_in t r))

  abbrev raw_of : Option (Reads Json) → Told Cell (Option Json)
  raw_of o = told_in t (there_if o)

  abbrev plain_of : Option (Reads Json) → Told Cell (Option Json)
  plain_of o = told_in t (there_if (option_map (ruled d f) o))

  -- ---- a value

  value_by : (u : Told Cell Json) (j : Json) (b : Bool) → b ≡ f j → raw_by u ≡ value (Some j)
      → plain_by u ≡ raw_by (finished (if_meets d b j))
  value_by (value v) j b e h =
      let same : v ≡ j = cc in
      ap (λ k. raw_by (finished (if_meets d (f k) k))) same ∙ ap (λ c. raw_by (finished (if_meets d c j))) (sym e)
  value_by no_value j b e h = absurd (cc)
  value_by (waits c) j b e h = absurd (cc)

  value_of : (o : Option (Reads Json)) (j : Json) (b : Bool) → b ≡ f j → raw_of o ≡ value (Some j)
      → plain_of o ≡ raw_by (finished (if_meets d b j))
  value_of None j b e h = absurd (let no : value None ≡ value (Some j) = sym (told_pure t None) ∙ h in cc)
  value_of (Some r) j b e h =
      plain_is r ∙ value_by (told_in t r) j b e (sym (raw_is r) ∙ h)

  -- ---- nothing

  nothing_by : (u : Told Cell Json) → raw_by u ≡ value None → ⊥
  nothing_by (value v) h = cc
  nothing_by no_value h = cc
  nothing_by (waits c) h = cc

  stopped_by : (u : Told Cell Json) → raw_by u ≡ no_value → plain_by u ≡ no_value
  stopped_by (value v) h = absurd (cc)
  stopped_by no_value h = refl
  stopped_by (waits c) h = absurd (cc)

  waits_by : (u : Told Cell Json) (c : Cell) → raw_by u ≡ waits c → plain_by u ≡ waits c
  waits_by (value v) c h = absurd (cc)
  waits_by no_value c h = absurd (cc)
  waits_by (waits e) c h = let same : e ≡ c = cc in ap waits same

  nothing_of : (o : Option (Reads Json)) → raw_of o ≡ value None → entry_told (plain_of o) ≡ absent
  nothing_of None h = ap entry_told (told_pure t None)
  nothing_of (Some r) h = absurd (nothing_by (told_in t r) (sym (raw_is r) ∙ h))

  stopped_of : (o : Option (Reads Json)) → raw_of o ≡ no_value → entry_told (plain_of o) ≡ absent
  stopped_of None h = absurd (let no : value None ≡ no_value = sym (told_pure t None) ∙ h in cc)
  stopped_of (Some r) h =
      ap entry_told (plain_is r ∙ stopped_by (told_in t r) (sym (raw_is r) ∙ h))

  waits_of : (o : Option (Reads Json)) (c : Cell) → raw_of o ≡ waits c → plain_of o ≡ waits c
  waits_of None c h = absurd (let no : value None ≡ waits c = sym (told_pure t None) ∙ h in cc)
  waits_of (Some r) c h = plain_is r ∙ waits_by (told_in t r) c (sym (raw_is r) ∙ h)

-- ---- the cell of a spot

module _ (t : Table) where
  abbrev d : Deployment
  d = whole_of t

  abbrev cell : Spot → Cell
  cell s = cell_of (scopes_of t) s

  plain_spot : (s : Spot) → plain d (cell s) ≡ there_if (option_map (ruled d (rule d (cell s))) (raw d (cell s)))
  unfolding plain
  plain_spot (spot.Parameter f n) = refl
  plain_spot (spot.Variable f n) = refl
  plain_spot (spot.Offered f n) = refl
  plain_spot (spot.Output f n) = refl
  plain_spot (spot.Count f r) = refl
  plain_spot (spot.Included f r i) = refl
  plain_spot (spot.Name f r i) = refl
  plain_spot (spot.Deployments f) = refl

  plain_told : (s : Spot) → told_in t (plain d (cell s)) ≡ plain_of t d (rule d (cell s)) (raw d (cell s))
  plain_told s = ap (told_in t) (plain_spot s)

  by_rule : (s : Spot) (v : Value) (b : Bool) → b ≡ rule d (cell s) (json v) → told_raw t s ≡ value (Some (json v))
      → told_in t (plain d (cell s)) ≡ raw_by t d (rule d (cell s)) (finished (if_meets d b (json v)))
  by_rule s v b e h = plain_told s ∙ value_of t d (rule d (cell s)) (raw d (cell s)) (json v) b e h

  pub rule_met : (s : Spot) (v : Value) (b : Bool) → b ≡ rule d (cell s) (json v) → b ≡ true
      → told_raw t s ≡ value (Some (json v)) → IsAnswer t s (answer.Value v)
  rule_met s v b e q h =
      by_rule s v b e h ∙ ap (λ c. raw_by t d (rule d (cell s)) (finished (if_meets d c (json v)))) q

  pub rule_broken : (s : Spot) (v : Value) (b : Bool) → b ≡ rule d (cell s) (json v) → b ≡ false
      → told_raw t s ≡ value (Some (json v)) → IsAnswer t s answer.Empty
  rule_broken s v b e q h =
      ap entry_told (by_rule s v b e h
      ∙ ap (λ c. raw_by t d (rule d (cell s)) (finished (if_meets d c (json v)))) q)

  pub nothing_answered : (s : Spot) → told_raw t s ≡ value None → IsAnswer t s answer.Empty
  nothing_answered s h = ap entry_told (plain_told s) ∙ nothing_of t d (rule d (cell s)) (raw d (cell s)) h

  pub stop_answered : (s : Spot) → told_raw t s ≡ no_value → IsAnswer t s answer.Empty
  stop_answered s h = ap entry_told (plain_told s) ∙ stopped_of t d (rule d (cell s)) (raw d (cell s)) h

  pub waits_answered : (s : Spot) (c : Cell) → told_raw t s ≡ waits c → told_in t (plain d (cell s)) ≡ waits c
  waits_answered s c h = plain_told s ∙ waits_of t d (rule d (cell s)) (raw d (cell s)) c h

  -- ---- the cell of a line

  module _ (at : ℕ) (ready : IsReady t) (h : at < length t.lines.items) where
    line_told : told_in t (meaning d (row_at (rows_in t) at).cell)
        ≡ told_in t (plain d (cell (line_at t.lines.items at).spot))
    line_told = ap (λ c. told_in t (meaning d c)) (sym (cell_of_row t at h)) ∙ told_listed t at ready h

    pub told_answer : (a : Answer) → IsAnswer t (line_at t.lines.items at).spot a
        → Tells d (rows_in t) (row_at (rows_in t) at).cell a
    told_answer (answer.Value v) e = line_told ∙ e
    told_answer answer.Empty e = ap entry_told line_told ∙ e
    told_answer (answer.Waits j) e = (e.0, line_told ∙ e.1)
    told_answer (answer.State k) e = line_told ∙ e

    pub told_answered : {E : Type 0} (r : Result Answer E) → IfOk r (IsAnswer t (line_at t.lines.items at).spot)
        → IfOk r (Tells d (rows_in t) (row_at (rows_in t) at).cell)
    told_answered (Ok a) e = told_answer a e
    told_answered (Err x) e = tt
