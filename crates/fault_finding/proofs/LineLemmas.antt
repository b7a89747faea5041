-- Why there is no plan, by a line.
use Rattle.std.proofs.Common.{◌≡◌, inl, ℕ, ◌<◌, Bool, true, false, true≢false, List, length, get_or}
use Rattle.std.proofs.Common.{Some, None, refl}
use Rattle.std.proofs.Common.{sym, ap, subst, ◌∙◌}
use Rattle.std.proofs.lemmas.List.{get_or_read}
use Rattle.foundation.proofs.TruthValues.{second_of_both}
use Rattle.arm_value.specs.Json.{Json}
use Rattle.arm_value.specs.View.{json}
use Rattle.arm_value.specs.declared.value.Value as code
use Rattle.arm_ids.specs.declared.id.ResourceId.{ResourceId}
use Rattle.reading.specs.Knowledge.{value, no_value, waits, missing, absent, blanked}
use Rattle.deploy_cells.specs.Cells.{Cell, parameter, variable, offered, output, count, included, name, deployments}
use Rattle.deploy_cells.specs.Cells.{state}
use Rattle.deploy_cells.specs.Cells.{is_admitted}
use Rattle.deploy_cells.specs.Guarded.{Reads}
use Rattle.plan_cells.specs.Known.{entry_told}
use Rattle.plan_cells.specs.Meaning.{meaning, raw}
use Rattle.plan_filling.specs.Rows.{Status, New, Open, Value, Empty, Late, row_at}
use Rattle.plan_filling.specs.Steps.{Filled}
use Rattle.plan_refusals.specs.Refusals.{is_needed}
use Rattle.plan_tasks.specs.Answered.{is_asked}
use Rattle.plan_table.specs.declared.table.Table.{Table}
use Rattle.plan_table.specs.declared.line.Line.{Line}
use Rattle.plan_table.specs.declared.line.Spot.{Spot}
use Rattle.plan_table.specs.declared.line.Spot.TheVariants.{Deployments}
use Rattle.plan_table.specs.Lines.{cell_of, line_at, new_line}
use Rattle.plan_table.specs.Whole.{whole_of, scopes_of, rows_in}
use Rattle.plan_sight.specs.declared.lack.Lack.TheVariants as lack
use Rattle.plan_sight.specs.Ready.{IsReady, told_in}
use Rattle.plan_sight.proofs.LookLemmas.{listed_row, cell_of_row}
use Rattle.plan_sight.proofs.ToldLemmas.{told_listed}
use Rattle.plan_start.specs.Values.{told_raw}
use Rattle.plan_start.proofs.AnswerLemmas.{waits_answered}
use Rattle.plan_paths.specs.CellPaths.{cell_path}
use Rattle.plan_settling.specs.Refused.{is_refused}
use Rattle.plan_faults.specs.Known.{IsCellAt}
use Rattle.lack_faults.specs.Lacks.{known_by_lines, IsLackAt, IsBrokenAt, IsMissingAt}
use Rattle.lack_faults.proofs.RowLemmas.{listed, row_there}
use Rattle.fault_finding.proofs.ReadLemmas.{read_value, read_none, read_waits, read_nothing, breaks}

pub asked_needed : (c : Cell) → is_asked c ≡ true → is_needed c ≡ true
asked_needed (count p r) e = refl
asked_needed (included p s) e = refl
asked_needed (name p s) e = refl
asked_needed (parameter p x) e = refl
asked_needed (variable p x) e = refl
asked_needed (offered p x) e = e
asked_needed (output p x) e = e
asked_needed (deployments p) e = e
asked_needed (state k) e = e

needed_by : (c : Cell) (s : Status) → is_refused (record { cell = c; status = s }) ≡ true → is_needed c ≡ true
needed_by c (Late k) e = asked_needed c e
needed_by c Empty e = second_of_both true (is_needed c) e
needed_by c (Value v) e = absurd (true≢false (sym e))
needed_by c New e = absurd (true≢false (sym e))
needed_by c Open e = absurd (true≢false (sym e))

module _ (t : Table) (at : ℕ) (ready : IsReady t) (filled : Filled (whole_of t) (rows_in t))
    (h : at < length t.lines.items) (refused : is_refused (row_at (rows_in t) at) ≡ true) where
  abbrev spot : Spot
  spot = (line_at t.lines.items at).spot

  abbrev cell : Cell
  cell = cell_of (scopes_of t) spot

  abbrev c : Cell
  c = (row_at (rows_in t) at).cell

  abbrev path : List ℕ
  path = cell_path (whole_of t).template cell

  same : cell ≡ c
  same = cell_of_row t at h

  pub is_there : is_admitted (blanked (known_by_lines t)) cell ≡ true
  is_there =
      subst (λ x. is_admitted (blanked (known_by_lines t)) x ≡ true) (sym same)
      (row_there (whole_of t) (rows_in t) filled.sound at (listed_row t at h))

  is_cell : (r : Reads Json) → raw (whole_of t) cell ≡ Some r
      → IsCellAt (whole_of t) (known_by_lines t) path cell r
  is_cell r e = record { is_there = is_there; is_raw = e; has_path = refl }

  pub cell_needed : is_needed cell ≡ true
  cell_needed = ap is_needed same ∙ needed_by c (row_at (rows_in t) at).status refused

  waits_meaning : (e : Cell) → told_raw t spot ≡ waits e → told_in t (meaning (whole_of t) c) ≡ waits e
  waits_meaning e w =
      ap (λ x. told_in t (meaning (whole_of t) x)) (sym same) ∙ told_listed t at ready h ∙ waits_answered t spot e w

  asked_by : (e : Cell) → told_in t (meaning (whole_of t) c) ≡ waits e → (s : Status)
      → (row_at (rows_in t) at).status ≡ s → is_refused (record { cell = c; status = s }) ≡ true → is_asked c ≡ true
  asked_by e w (Late k) q r = r
  asked_by e w Empty q r =
      let no : missing ≡ absent = sym (ap entry_told w) ∙ filled.sound.good.tells_empty c
      (listed (whole_of t) (rows_in t) filled.sound at (listed_row t at h) ∙ ap Some q) in absurd (cc)
  asked_by e w (Value v) q r = absurd (true≢false (sym r))
  asked_by e w New q r = absurd (true≢false (sym r))
  asked_by e w Open q r = absurd (true≢false (sym r))

  cell_asked : (e : Cell) → told_raw t spot ≡ waits e → is_asked cell ≡ true
  cell_asked e w =
      ap is_asked same ∙ asked_by e (waits_meaning e w) (row_at (rows_in t) at).status refl refused

  pub none_lacks : told_raw t spot ≡ no_value → IsLackAt t path lack.NoValue
  none_lacks e =
      let r = read_none t (raw (whole_of t) cell) e in record {
        reading = r.reading;
        is_needed = inl (record { cell = cell; is_needed = cell_needed; is_cell = is_cell r.reading r.is });
        is_asked = λ x w. absurd (let no : no_value ≡ waits x = sym r.is_told ∙ w in cc);
        stops = r.is_told;
      }

  pub line_lacks : (j : ℕ) → j < length (rows_in t) → told_raw t spot ≡ waits (row_at (rows_in t) j).cell
      → IsLackAt t path (lack.Line j)
  line_lacks j l e =
      let r = read_waits t (raw (whole_of t) cell) (row_at (rows_in t) j).cell e in record {
        reading = r.reading;
        is_needed = inl (record { cell = cell; is_needed = cell_needed; is_cell = is_cell r.reading r.is });
        is_asked = λ x w. inl (record {
          cell = cell;
          is_asked = cell_asked (row_at (rows_in t) j).cell e;
          is_cell = is_cell r.reading r.is;
        });
        stops = (l, r.is_told);
      }

  pub state_lacks : (k : ResourceId) → told_raw t spot ≡ waits (state k) → IsLackAt t path (lack.State k)
  state_lacks k e =
      let r = read_waits t (raw (whole_of t) cell) (state k) e in record {
        reading = r.reading;
        is_needed = inl (record { cell = cell; is_needed = cell_needed; is_cell = is_cell r.reading r.is });
        is_asked = λ x w. inl (record {
          cell = cell;
          is_asked = cell_asked (state k) e;
          is_cell = is_cell r.reading r.is;
        });
        stops = r.is_told;
      }

  pub nothing_lacks : told_raw t spot ≡ value None → IsMissingAt t spot path
  nothing_lacks e = record {
    is_placed = ready.laid.placed at h;
    is_there = is_there;
    has_none = read_nothing t (raw (whole_of t) cell) e;
    has_path = refl;
  }

  pub missing_at : (s : Spot) (x : List ℕ) → spot ≡ s → x ≡ path → told_raw t spot ≡ value None → IsMissingAt t s x
  missing_at s x e g m =
      subst (λ (u : Spot). IsMissingAt t u x) e
      (subst (λ (y : List ℕ). IsMissingAt t spot y) (sym g) (nothing_lacks m))

  pub value_breaks : (v : code.Value) → told_raw t spot ≡ value (Some (json v)) → IsBrokenAt t spot path (json v)
  value_breaks v e =
      let r = read_value t (raw (whole_of t) cell) (json v) e in record {
        is_placed = ready.laid.placed at h;
        reading = r.reading;
        is_cell = is_cell r.reading r.is;
        has = r.is_told;
        breaks = breaks t at ready filled h refused v e;
      }

  pub broken_at : (s : Spot) (x : List ℕ) (v : code.Value) → spot ≡ s → x ≡ path
      → told_raw t spot ≡ value (Some (json v)) → IsBrokenAt t s x (json v)
  broken_at s x v e g m =
      subst (λ (u : Spot). IsBrokenAt t u x (json v)) e
      (subst (λ (y : List ℕ). IsBrokenAt t spot y (json v)) (sym g) (value_breaks v m))

-- the spot of a line that was read
pub spot_read : (t : Table) (at : ℕ) (l : Line) → at < length t.lines.items → l ≡ get_or t.lines.items at l
    → (line_at t.lines.items at).spot ≡ l.spot
spot_read t at l h e =
    ap (λ (y : Line). y.spot) (sym (get_or_read t.lines.items at l h e (new_line (Deployments 0))))
