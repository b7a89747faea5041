-- A value of a task waits for no line but that of an output of a scope that was not left.
use Rattle.std.proofs.Common.{◌≡◌, ℕ, ◌<◌, Bool, true, false, length, Option, Some, None, refl, sym, ap, subst}
use Rattle.std.proofs.Common.{◌∙◌, arith}
use Rattle.std.specs.Prelude.{slice_get}
use Rattle.deploy_cells.proofs.SameLemmas.{position_same}
use Rattle.foundation.proofs.TruthValues.{unless}
use Rattle.arm_value.specs.Json.{Json}
use Rattle.reading.specs.Knowledge.{missing, waits, told, IsThere, Means}
use Rattle.reading.proofs.Completion.{told_means}
use Rattle.deploy_cells.specs.Cells.{Position, Cell, parameter, variable, offered, output, count, included, name}
use Rattle.deploy_cells.specs.Cells.{deployments, state}
use Rattle.plan_cells.specs.Known as known
use Rattle.plan_cells.specs.Known.{by_others, entry_of, entry_told, entry_by}
use Rattle.plan_cells.specs.Meaning.{meaning}
use Rattle.plan_cells.specs.Desired.{is_state}
use Rattle.plan_cells.specs.Start.{start, start_world}
use Rattle.plan_cells.specs.Tasks.{Task, leave}
use Rattle.plan_cells.specs.Reads.{is_given_by}
use Rattle.plan_cells.specs.Children.{Has}
use Rattle.plan_filling.specs.Rows.{Row, Status, status_of, known_by}
use Rattle.plan_filling.specs.Final.{or_unlisted}
use Rattle.plan_filling.proofs.RowLemmas.{status_found}
use Rattle.plan_table.specs.declared.table.Table.{Table}
use Rattle.plan_table.specs.declared.line.Spot.{Spot}
use Rattle.plan_table.specs.declared.line.Spot.TheVariants.{Parameter, Variable, Offered, Output, Count, Included}
use Rattle.plan_table.specs.declared.line.Spot.TheVariants.{Name, Deployments}
use Rattle.plan_table.specs.Lines.{frame_of, cell_of, line_at, status_in}
use Rattle.plan_table.specs.Whole.{scopes_of, rows_in}
use Rattle.plan_table.specs.Found.{scope_at, state_at}
use Rattle.plan_table.proofs.LaidLemmas.{row_here, length_rows}
use Rattle.deploy_histories.specs.Planned.{Planned, IsPlanned, IsAnswered}
use Rattle.deploy_histories.specs.Events.{Progress, done_status}
use Rattle.deploy_histories.specs.Values.{TaskValue, task_values}
use Rattle.history_starts.proofs.Lists.{lists_known}
use Rattle.point_rows.specs.declared.later.Later.{Later}
use Rattle.point_rows.specs.Rows.{line_rows, known_now, told_now}
use Rattle.point_rows.proofs.RowsNowLemmas.{is_fixed, fixed_same, past_states}
use Rattle.task_standings.specs.Standings.{StandsAs}
use Rattle.task_standings.specs.declared.standing.Standing.TheVariants.{Waits}
use Rattle.awaited_cells.specs.Awaited.{MaySee}
use Rattle.plan_standings.specs.Waits.{line_frame, is_output_spot, IsStartOf, IsKeptAt, IsEntered, IsInSight}

no_entry : (o : Option Json) → entry_of o ≡ missing → ⊥
no_entry (Some v) e = cc
no_entry None e = cc

pub is_missing : (q : known.Table) (a : TaskValue) (c : Cell) → told q a.reading ≡ waits c → q c ≡ missing
is_missing q a c e =
    (subst (Means q a.reading) e (told_means Cell Json (Option Json) q a.reading)).is_missing

module _ (x : Planned) (p : Progress) (t : Table) (l : Later) (planned : IsPlanned x) (begun : IsStartOf x t)
    (kept : IsKeptAt x p t l) where
  -- ---- counts, conditions, names and lists are known

  at_start : (c : Cell) (a : IsAnswered x c) → start c ≡ by_others → x.known c ≡ entry_of a.answer
  at_start c a e =
      planned.is_start.closed c
      ∙ ap (λ n. entry_by n (entry_told (told x.known (meaning x.deployment c)))) e ∙ ap entry_told a.is_told

  later_same : (c : Cell) → is_fixed c ≡ true → is_state c ≡ false
      → known_now t l c ≡ known_by (status_of (rows_in t) c)
  later_same c f n =
      ap known_by
      (past_states l.states.items (line_rows (scopes_of t) t.lines.items l.entries.items) c n
      ∙ fixed_same (scopes_of t) t.lines.items l.entries.items c f)

  fixed_known : (c : Cell) (s : Status) → is_fixed c ≡ true → is_state c ≡ false → start c ≡ by_others
      → IsAnswered x c → status_of (rows_in t) c ≡ Some s → known_now t l c ≡ missing → ⊥
  fixed_known c s f n b a e m =
      no_entry a.answer
      (sym (at_start c a b) ∙ ap (λ (q : known.Table). q c) begun.known
      ∙ ap (λ o. or_unlisted (status_of (rows_in t)) c o) e ∙ sym (later_same c f n ∙ ap known_by e) ∙ m)

  -- ---- what is in sight

  pub in_sight : (q : Position) → IsEntered x p q → (c : Cell) → MaySee x.deployment q c
      → IsInSight x.deployment (known_now t l) c
  in_sight q e (parameter r y) h =
      (kept.scopes e.number e.is_done).entered q e.is_task (parameter r y) h
  in_sight q e (variable r y) h =
      (kept.scopes e.number e.is_done).entered q e.is_task (variable r y) h
  in_sight q e (offered r y) h = h
  in_sight q e (output r y) h = h
  in_sight q e (count r n) h = tt
  in_sight q e (included r s) h = tt
  in_sight q e (name r s) h = tt
  in_sight q e (deployments r) h = tt
  in_sight q e (state k) h = tt

  -- ---- the line of an output

  abbrev cell_at : Spot → Cell
  cell_at s = cell_of (scopes_of t) s

  is_listed : (s : Spot) (y : Status) → status_of (rows_in t) (cell_at s) ≡ Some y
      → IsInSight x.deployment (known_now t l) (cell_at s) → known_now t l (cell_at s) ≡ missing
      → is_output_spot s ≡ true
  is_listed (Parameter f n) y e h m = absurd (subst IsThere m h)
  is_listed (Variable f n) y e h m = absurd (subst IsThere m h)
  is_listed (Offered f n) y e h m = refl
  is_listed (Output f n) y e h m = refl
  is_listed (Count f r) y e h m =
      absurd (fixed_known (cell_at (Count f r)) y refl refl refl (planned.answered (cell_at (Count f r)) refl) e m)
  is_listed (Included f r i) y e h m =
      absurd (fixed_known (cell_at (Included f r i)) y refl refl refl
      (planned.answered (cell_at (Included f r i)) refl) e m)
  is_listed (Name f r i) y e h m =
      absurd (fixed_known (cell_at (Name f r i)) y refl refl refl
      (planned.answered (cell_at (Name f r i)) refl) e m)
  is_listed (Deployments f) y e h m =
      absurd (fixed_known (cell_at (Deployments f)) y refl refl refl
      (lists_known x planned (scope_at t f).position) e m)

  -- its scope was not left
  not_left : (s : Spot) → is_output_spot s ≡ true → IsInSight x.deployment (known_now t l) (cell_at s)
      → known_now t l (cell_at s) ≡ missing → (v : ℕ)
      → slice_get x.tasks v ≡ Some (leave (scope_at t (frame_of s)).position) → done_status (p.status v) ≡ true → ⊥
  not_left (Offered f n) o h m v e d =
      let q = (scope_at t f).position in
      subst IsThere m ((kept.scopes v d).left q _ h.template e h.is_there h.declares).0
  not_left (Output f n) o h m v e d =
      let q = (scope_at t f).position in
      subst IsThere m ((kept.scopes v d).left q _ h.template e h.is_there h.declares).1
  not_left (Parameter f n) o h m v e d = absurd (cc)
  not_left (Variable f n) o h m v e d = absurd (cc)
  not_left (Count f r) o h m v e d = absurd (cc)
  not_left (Included f r i) o h m v e d = absurd (cc)
  not_left (Name f r i) o h m v e d = absurd (cc)
  not_left (Deployments f) o h m v e d = absurd (cc)

  given : (s : Spot) → is_output_spot s ≡ true
      → is_given_by x.deployment (start_world x.known) (leave (scope_at t (frame_of s)).position) (cell_at s) ≡ true
  given (Offered f n) o = position_same (scope_at t f).position
  given (Output f n) o = position_same (scope_at t f).position
  given (Parameter f n) o = absurd (cc)
  given (Variable f n) o = absurd (cc)
  given (Count f r) o = absurd (cc)
  given (Included f r i) o = absurd (cc)
  given (Name f r i) o = absurd (cc)
  given (Deployments f) o = absurd (cc)

  status_at : (j : ℕ) → j < length t.lines.items
      → status_of (rows_in t) (cell_at (line_at t.lines.items j).spot) ≡ Some (status_in (state_at t j))
  status_at j h =
      subst (λ (r : Row). status_of (rows_in t) r.cell ≡ Some r.status) (row_here (scopes_of t) t.lines.items j h)
      (status_found (rows_in t) j begun.table.filled.sound.distinct
      (let n = length_rows (scopes_of t) t.lines.items in omega (arith, n, h)))

  -- the cell of the line is given by the task that leaves its scope, which is not done
  pub line_giver : (j : ℕ) → j < length t.lines.items
      → known_now t l (cell_at (line_at t.lines.items j).spot) ≡ missing
      → IsInSight x.deployment (known_now t l) (cell_at (line_at t.lines.items j).spot) → (v : ℕ)
      → slice_get x.tasks v ≡ Some (leave (scope_at t (line_frame t j)).position)
      → (done_status (p.status v) ≡ false)
      × (is_given_by x.deployment (start_world x.known) (leave (scope_at t (line_frame t j)).position)
      (cell_at (line_at t.lines.items j).spot) ≡ true)
  line_giver j h m sight v has =
      let s = (line_at t.lines.items j).spot in
      let o = is_listed s (status_in (state_at t j)) (status_at j h) sight m in
      (unless (done_status (p.status v)) (not_left s o sight m v has), given s o)

  -- a value of the task waits for the cell of the line, which the task gives that leaves its scope
  pub line_stands : (u : ℕ) (task : Task) (a : TaskValue) → Has a (task_values x.deployment task) → (j : ℕ)
      → j < length t.lines.items
      → told_now t l a.reading ≡ waits (cell_at (line_at t.lines.items j).spot)
      → IsInSight x.deployment (known_now t l) (cell_at (line_at t.lines.items j).spot) → (v : ℕ)
      → slice_get x.tasks v ≡ Some (leave (scope_at t (line_frame t j)).position)
      → StandsAs x p (known_now t l) u task (Waits v)
  line_stands u task a is_value j h e sight v has =
      let s = (line_at t.lines.items j).spot in
      let r = line_giver j h (is_missing (known_now t l) a (cell_at s) e) sight v has in (
        r.0,
        (
          leave (scope_at t (line_frame t j)).position,
          (has, record { awaiting = a; is_value = is_value; cell = cell_at s; is_awaited = e; is_given = r.1 }),
        ),
      )
