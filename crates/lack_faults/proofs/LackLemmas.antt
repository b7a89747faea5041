-- Why there is no plan, by what a reading lacks.
use Rattle.std.proofs.Common.{◌≡◌, inl, inr, ℕ, ◌<◌, List, length, get_or, Some, refl, sym, ap, subst, ◌∙◌, arith}
use Rattle.std.specs.Prelude.{slice_get}
use Rattle.arm_value.specs.Json.{Json}
use Rattle.arm_ids.specs.Held.{HeldResource}
use Rattle.arm_ids.specs.declared.id.ResourceId.{ResourceId}
use Rattle.reading.specs.Knowledge.{Known, missing, Told, waits, told, Means}
use Rattle.reading.proofs.Completion.{told_means}
use Rattle.template_parts.specs.declared.mode.Mode.{Mode}
use Rattle.deploy_cells.specs.Cells.{Cell, state, step}
use Rattle.deploy_cells.specs.Guarded.{Reads}
use Rattle.plan_cells.specs.Resources.{Listed}
use Rattle.plan_filling.specs.Rows.{Status, New, Open, Value, Empty, Late, Row, row_at, status_of, known_by, IsFinished}
use Rattle.plan_filling.specs.Final.{Leads}
use Rattle.plan_filling.specs.Steps.{Filled}
use Rattle.plan_table.specs.declared.line.Line.{Line}
use Rattle.plan_table.specs.declared.line.State.{State}
use Rattle.plan_table.specs.declared.line.State.TheVariants as how
use Rattle.plan_table.specs.declared.table.Table.{Table}
use Rattle.plan_table.specs.Whole.{whole_of, scopes_of, rows_in, IsLaid}
use Rattle.plan_table.specs.Found.{scope_at}
use Rattle.plan_table.specs.Lines.{status_in}
use Rattle.plan_table.proofs.LaidLemmas.{row_here, length_rows}
use Rattle.plan_sight.proofs.LookLemmas.{listed_row, state_here}
use Rattle.plan_openers.specs.declared.opener.Opener.{Opener}
use Rattle.plan_elements.proofs.SiteLemmas.{resource_numbered, one_listed}
use Rattle.plan_sight.specs.declared.lack.Lack.{Lack}
use Rattle.plan_sight.specs.declared.lack.Lack.TheVariants as lack
use Rattle.plan_sight.specs.Ready.{IsReady}
use Rattle.plan_elements.specs.Elements.{element_at, IsLacking}
use Rattle.plan_paths.specs.CellPaths.{element_path}
use Rattle.plan_faults.specs.declared.fault.PlanFault.TheVariants as fault
use Rattle.plan_faults.specs.Known.{AreKnown, WaitsForState, IsElementAt}
use Rattle.plan_faults.specs.Faults.{IsFault}
use Rattle.lack_faults.specs.Lacks.{known_by_lines, IsLackAt}
use Rattle.lack_faults.proofs.RowLemmas.{known_rows, late_leads, listed}

awaited : (q : Cell → Known Json) (r : Reads Json) (c : Cell) → told q r ≡ waits c → q c ≡ missing
awaited q r c e =
    let m : Means q r (waits c) = subst (λ (x : Told Cell Json). Means q r x) e (told_means Cell Json Json q r) in
    m.is_missing

pub line_listed : (t : Table) (at : ℕ) → at < length (rows_in t) → at < length t.lines.items
line_listed t at h = let n = length_rows (scopes_of t) t.lines.items in omega (arith, n, h)

module _ (t : Table) (filled : Filled (whole_of t) (rows_in t)) where
  known_now : AreKnown (whole_of t) (known_by_lines t)
  known_now = known_rows (whole_of t) (rows_in t) filled.sound

  -- ---- a line that is missing is late

  pub late_line : (at : ℕ) (k : ResourceId) → at < length (rows_in t) → (row_at (rows_in t) at).status ≡ Late k
      → Leads (whole_of t) (known_by_lines t) (row_at (rows_in t) at).cell k
  late_line at k h e =
      late_leads (whole_of t) (status_of (rows_in t)) (row_at (rows_in t) at).cell k
      (filled.sound.good.late (row_at (rows_in t) at).cell k
      (listed (whole_of t) (rows_in t) filled.sound at h ∙ ap Some e))

  not_late : (s : Status) → IsFinished s → known_by (Some s) ≡ missing → (k : ResourceId) × (s ≡ Late k)
  not_late (Late k) f m = (k, refl)
  not_late New f m = absurd f
  not_late Open f m = absurd f
  not_late (Value v) f m = absurd (cc)
  not_late Empty f m = absurd (cc)

  pub missing_line : (at : ℕ) → at < length (rows_in t)
      → known_by_lines t (row_at (rows_in t) at).cell ≡ missing
      → (k : ResourceId) × ((row_at (rows_in t) at).status ≡ Late k)
  missing_line at h m =
      not_late (row_at (rows_in t) at).status (filled.finished at h)
      (sym (ap known_by (listed (whole_of t) (rows_in t) filled.sound at h)) ∙ m)

  -- ---- what a reading lacks

  module _ (path : List ℕ) (mode : Mode) (held : List HeldResource) where
    pub no_value_fault : IsLackAt t path lack.NoValue → IsFault (whole_of t) mode held (fault.NoValue path)
    no_value_fault l = (
      known_by_lines t,
      (
        known_now,
        inl (record { reading = l.reading; is_needed = l.is_needed; has_none = l.stops }),
      ),
    )

    pub state_fault : (k : ResourceId) → IsLackAt t path (lack.State k)
        → IsFault (whole_of t) mode held (fault.NotStartKnown path k)
    state_fault k l = (
      known_by_lines t,
      (
        known_now,
        record {
          reading = l.reading;
          is_asked = l.is_asked (state k) l.stops;
          reads = subst (λ u. WaitsForState (whole_of t) (known_by_lines t) u k) (sym l.stops) (inl refl);
        },
      ),
    )

    pub line_fault : (at : ℕ) (k : ResourceId) → IsLackAt t path (lack.Line at)
        → Leads (whole_of t) (known_by_lines t) (row_at (rows_in t) at).cell k
        → IsFault (whole_of t) mode held (fault.NotStartKnown path k)
    line_fault at k l leads = (
      known_by_lines t,
      (
        known_now,
        record {
          reading = l.reading;
          is_asked = l.is_asked (row_at (rows_in t) at).cell l.stops.1;
          reads = subst (λ u. WaitsForState (whole_of t) (known_by_lines t) u k) (sym l.stops.1) (inr leads);
        },
      ),
    )

  pub line_missing : (path : List ℕ) (at : ℕ) → IsLackAt t path (lack.Line at)
      → known_by_lines t (row_at (rows_in t) at).cell ≡ missing
  line_missing path at l = awaited (known_by_lines t) l.reading (row_at (rows_in t) at).cell l.stops.1

  -- an element of `dependsOn`
  pub element_lacks : (x : Opener) (k : ℕ) (e : Lack) → IsLaid t → IsLacking t x k e
      → IsLackAt t (element_path (whole_of t).template (scope_at t x.frame).position (step x.resource x.copy) k) e
  element_lacks x k e laid l =
      let ready : IsReady t = record { laid = laid; sound = filled.sound } in
      let n = l.is_instance.number in
      let same : n.listed ≡ l.are_elements.listed =
      one_listed t x.frame x.resource n l.are_elements.listed l.are_elements.is_listed in
      let element : IsElementAt (whole_of t) (element_path (whole_of t).template (scope_at t x.frame).position
      (step x.resource x.copy) k) (element_at t x l.tree) = record {
        position = (scope_at t x.frame).position;
        instance = step x.resource x.copy;
        number = k;
        listed = n.listed;
        is_listed = resource_numbered t x.frame ready l.is_instance.there x.resource n;
        tree = l.tree;
        has = ap (λ ys. slice_get ys k) (ap (λ (y : Listed). y.declaration.depends_on) same ∙ l.are_elements.are)
            ∙ l.has;
        is = refl;
        has_path = refl;
      } in
      record {
        reading = element_at t x l.tree;
        is_needed = inr element;
        is_asked = λ c w. inr element;
        stops = l.stops;
      }

  -- ---- the state of a line that was read

  pub read_late : (at : ℕ) (l : Line) (k : ResourceId) → at < length t.lines.items → l ≡ get_or t.lines.items at l
      → l.state ≡ how.Late k → Leads (whole_of t) (known_by_lines t) (row_at (rows_in t) at).cell k
  read_late at l k h e s =
      late_line at k (listed_row t at h)
      (ap (λ (r : Row). r.status) (row_here (scopes_of t) t.lines.items at h)
      ∙ ap status_in (state_here t at l (how.Late k) h e s))

  -- a line that is missing is not in another state
  pub read_other : (at : ℕ) (l : Line) (x : State) → at < length t.lines.items → l ≡ get_or t.lines.items at l
      → l.state ≡ x → known_by_lines t (row_at (rows_in t) at).cell ≡ missing
      → ((k : ResourceId) → status_in x ≡ Late k → ⊥) → ⊥
  read_other at l x h e s m other =
      let late = missing_line at (listed_row t at h) m in
      other late.0 (sym (ap (λ (r : Row). r.status) (row_here (scopes_of t) t.lines.items at h)
      ∙ ap status_in (state_here t at l x h e s)) ∙ late.1)

pub new_not : (k : ResourceId) → New ≡ Late k → ⊥
new_not k e = cc

pub open_not : (k : ResourceId) → Open ≡ Late k → ⊥
open_not k e = cc

pub value_not : (v : Json) (k : ResourceId) → Value v ≡ Late k → ⊥
value_not v k e = cc

pub empty_not : (k : ResourceId) → Empty ≡ Late k → ⊥
empty_not k e = cc
