-- What is answered of a cell at a point, by what is told of its value.
use Rattle.std.proofs.Common.{◌≡◌, Bool, true, false, Option, Some, None, refl, sym, ap, ◌∙◌}
use Rattle.std.specs.Prelude.{option_map}
use Rattle.arm_value.specs.Json.{Json}
use Rattle.arm_value.specs.View.{json}
use Rattle.arm_value.specs.declared.value.Value.{Value}
use Rattle.reading.specs.Reading.{done, pure}
use Rattle.reading.specs.Knowledge.{Told, value, no_value, waits, absent, finished, and_then}
use Rattle.deploy_cells.specs.Cells.{Cell}
use Rattle.deploy_cells.specs.Guarded.{Reads, there, there_if}
use Rattle.plan_cells.specs.Known.{entry_told}
use Rattle.plan_cells.specs.Meaning.{Deployment, plain, raw, rule, ruled, if_meets}
use Rattle.plan_filling.specs.declared.sheet.Answer.TheVariants as answer
use Rattle.plan_table.specs.declared.table.Table.{Table}
use Rattle.plan_table.specs.declared.line.Spot.{Spot}
use Rattle.plan_table.specs.declared.line.Spot.TheVariants as spot
use Rattle.plan_table.specs.Lines.{cell_of}
use Rattle.plan_table.specs.Whole.{whole_of, scopes_of}
use Rattle.point_rows.specs.declared.later.Later.{Later}
use Rattle.point_rows.specs.Rows.{told_now}
use Rattle.point_rows.proofs.ToldNowLemmas.{told_pure, goes}
use Rattle.point_cells.specs.RawNow.{raw_now}
use Rattle.scope_entries.specs.Entries.{plain_now, IsAnswerNow}

-- ---- by what is told of the reading of a value

module _ (t : Table) (l : Later) (d : Deployment) (f : Json → Bool) where
  told_done : {A : Type 0} (o : Option A) → told_now t l (done o) ≡ finished o
  unfolding Rattle.reading.specs.Knowledge.told
  told_done o = refl

  abbrev pub raw_by : Told Cell Json → Told Cell (Option Json)
  raw_by u = and_then u (λ v. value (Some v))

  abbrev pub plain_by : Told Cell Json → Told Cell (Option Json)
  plain_by u = raw_by (and_then u (λ j. finished (if_meets d (f j) j)))

  each_there : (u : Told Cell Json) → and_then u (λ v. told_now t l (pure (Some v))) ≡ raw_by u
  each_there (value v) = told_pure t l (Some v)
  each_there no_value = refl
  each_there (waits c) = refl

  each_ruled : (u : Told Cell Json) → and_then u (λ j. told_now t l (done (if_meets d (f j) j)))
      ≡ and_then u (λ j. finished (if_meets d (f j) j))
  each_ruled (value j) = told_done (if_meets d (f j) j)
  each_ruled no_value = refl
  each_ruled (waits c) = refl

  raw_is : (r : Reads Json) → told_now t l (there r) ≡ raw_by (told_now t l r)
  raw_is r = goes t l r (λ v. pure (Some v)) ∙ each_there (told_now t l r)

  plain_is : (r : Reads Json) → told_now t l (there (ruled d f r)) ≡ plain_by (told_now t l r)
  plain_is r =
      raw_is (ruled d f r)
      ∙ ap raw_by (goes t l r (λ j. done (if_meets d (f j) j)) ∙ each_ruled (told_now t l r))

  abbrev pub raw_of : Option (Reads Json) → Told Cell (Option Json)
  raw_of o = told_now t l (there_if o)

  abbrev pub plain_of : Option (Reads Json) → Told Cell (Option Json)
  plain_of o = told_now t l (there_if (option_map (ruled d f) o))

  -- ---- a value

  value_by : (u : Told Cell Json) (j : Json) (b : Bool) → b ≡ f j → raw_by u ≡ value (Some j)
      → plain_by u ≡ raw_by (finished (if_meets d b j))
  value_by (value v) j b e h =
      let same : v ≡ j = cc in
      ap (λ k. raw_by (finished (if_meets d (f k) k))) same ∙ ap (λ c. raw_by (finished (if_meets d c j))) (sym e)
  value_by no_value j b e h = absurd (cc)
  value_by (waits c) j b e h = absurd (cc)

  pub value_of : (o : Option (Reads Json)) (j : Json) (b : Bool) → b ≡ f j → raw_of o ≡ value (Some j)
      → plain_of o ≡ raw_by (finished (if_meets d b j))
  value_of None j b e h = absurd (let no : value None ≡ value (Some j) = sym (told_pure t l None) ∙ h in cc)
  value_of (Some r) j b e h =
      plain_is r ∙ value_by (told_now t l r) j b e (sym (raw_is r) ∙ h)

  -- ---- nothing

  nothing_by : (u : Told Cell Json) → raw_by u ≡ value None → ⊥
  nothing_by (value v) h = cc
  nothing_by no_value h = cc
  nothing_by (waits c) h = cc

  pub not_nothing : (r : Reads Json) → told_now t l (there r) ≡ value None → ⊥
  not_nothing r h = nothing_by (told_now t l r) (sym (raw_is r) ∙ h)

  stopped_by : (u : Told Cell Json) → raw_by u ≡ no_value → plain_by u ≡ no_value
  stopped_by (value v) h = absurd (cc)
  stopped_by no_value h = refl
  stopped_by (waits c) h = absurd (cc)

  waits_by : (u : Told Cell Json) (c : Cell) → raw_by u ≡ waits c → plain_by u ≡ waits c
  waits_by (value v) c h = absurd (cc)
  waits_by no_value c h = absurd (cc)
  waits_by (waits e) c h = let same : e ≡ c = cc in ap waits same

  pub nothing_of : (o : Option (Reads Json)) → raw_of o ≡ value None → entry_told (plain_of o) ≡ absent
  nothing_of None h = ap entry_told (told_pure t l None)
  nothing_of (Some r) h = absurd (nothing_by (told_now t l r) (sym (raw_is r) ∙ h))

  pub stopped_of : (o : Option (Reads Json)) → raw_of o ≡ no_value → plain_of o ≡ no_value
  stopped_of None h = absurd (let no : value None ≡ no_value = sym (told_pure t l None) ∙ h in cc)
  stopped_of (Some r) h = plain_is r ∙ stopped_by (told_now t l r) (sym (raw_is r) ∙ h)

  pub waits_of : (o : Option (Reads Json)) (c : Cell) → raw_of o ≡ waits c → plain_of o ≡ waits c
  waits_of None c h = absurd (let no : value None ≡ waits c = sym (told_pure t l None) ∙ h in cc)
  waits_of (Some r) c h = plain_is r ∙ waits_by (told_now t l r) c (sym (raw_is r) ∙ h)

-- ---- the cell of a spot

module _ (t : Table) (l : Later) where
  abbrev d : Deployment
  d = whole_of t

  abbrev pub cell : Spot → Cell
  cell s = cell_of (scopes_of t) s

  plain_spot : (s : Spot) → plain d (cell s) ≡ there_if (option_map (ruled d (rule d (cell s))) (raw d (cell s)))
  unfolding plain
  plain_spot (spot.Parameter f n) = refl
  plain_spot (spot.Variable f n) = refl
  plain_spot (spot.Offered f n) = refl
  plain_spot (spot.Output f n) = refl
  plain_spot (spot.Count f r) = refl
  plain_spot (spot.Included f r i) = refl
  plain_spot (spot.Name f r i) = refl
  plain_spot (spot.Deployments f) = refl

  plain_told : (s : Spot) → plain_now t l (cell s) ≡ plain_of t l d (rule d (cell s)) (raw d (cell s))
  plain_told s = ap (told_now t l) (plain_spot s)

  by_rule : (s : Spot) (j : Json) (b : Bool) → b ≡ rule d (cell s) j → raw_now t l s ≡ value (Some j)
      → plain_now t l (cell s) ≡ raw_by t l d (rule d (cell s)) (finished (if_meets d b j))
  by_rule s j b e h = plain_told s ∙ value_of t l d (rule d (cell s)) (raw d (cell s)) j b e h

  pub meets : (s : Spot) (j : Json) (b : Bool) → b ≡ rule d (cell s) j → b ≡ true → raw_now t l s ≡ value (Some j)
      → plain_now t l (cell s) ≡ value (Some j)
  meets s j b e q h =
      by_rule s j b e h ∙ ap (λ c. raw_by t l d (rule d (cell s)) (finished (if_meets d c j))) q

  pub breaks : (s : Spot) (j : Json) (b : Bool) → b ≡ rule d (cell s) j → b ≡ false → raw_now t l s ≡ value (Some j)
      → plain_now t l (cell s) ≡ no_value
  breaks s j b e q h =
      by_rule s j b e h ∙ ap (λ c. raw_by t l d (rule d (cell s)) (finished (if_meets d c j))) q

  pub rule_met : (s : Spot) (v : Value) (b : Bool) → b ≡ rule d (cell s) (json v) → b ≡ true
      → raw_now t l s ≡ value (Some (json v)) → IsAnswerNow t l (cell s) (answer.Value v)
  rule_met s v b e q h = meets s (json v) b e q h

  pub rule_broken : (s : Spot) (v : Value) (b : Bool) → b ≡ rule d (cell s) (json v) → b ≡ false
      → raw_now t l s ≡ value (Some (json v)) → IsAnswerNow t l (cell s) answer.Empty
  rule_broken s v b e q h = ap entry_told (breaks s (json v) b e q h)

  pub nothing_answered : (s : Spot) → raw_now t l s ≡ value None → IsAnswerNow t l (cell s) answer.Empty
  nothing_answered s h = ap entry_told (plain_told s) ∙ nothing_of t l d (rule d (cell s)) (raw d (cell s)) h

  pub stop_told : (s : Spot) → raw_now t l s ≡ no_value → plain_now t l (cell s) ≡ no_value
  stop_told s h = plain_told s ∙ stopped_of t l d (rule d (cell s)) (raw d (cell s)) h

  pub stop_answered : (s : Spot) → raw_now t l s ≡ no_value → IsAnswerNow t l (cell s) answer.Empty
  stop_answered s h = ap entry_told (stop_told s h)

  pub waits_told : (s : Spot) (c : Cell) → raw_now t l s ≡ waits c → plain_now t l (cell s) ≡ waits c
  waits_told s c h = plain_told s ∙ waits_of t l d (rule d (cell s)) (raw d (cell s)) c h
