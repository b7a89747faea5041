-- What telling a line once comes to, by what is told of its cell.
use Rattle.std.proofs.Common.{◌≡◌, ℕ, ◌<◌, Bool, true, false, length, Some, None, inr, refl, sym, subst, arith}
use Rattle.std.proofs.lemmas.Option.{same_Some}
use Rattle.reading.specs.Knowledge.{waits, absent}
use Rattle.deploy_cells.specs.Cells.{Cell, state}
use Rattle.arm_ids.specs.declared.id.ResourceId.{ResourceId}
use Rattle.plan_cells.specs.Known.{entry_told}
use Rattle.plan_cells.specs.Children.{Has}
use Rattle.plan_filling.specs.Rows.{row_at}
use Rattle.plan_filling.specs.declared.sheet.Answer.TheVariants as answer
use Rattle.plan_table.specs.declared.table.Table.{Table}
use Rattle.plan_table.specs.Lines.{line_at}
use Rattle.plan_table.specs.Whole.{scopes_of, rows_in}
use Rattle.plan_table.proofs.LaidLemmas.{length_rows}
use Rattle.plan_sight.specs.Ready.{IsReady}
use Rattle.plan_sight.proofs.LookLemmas.{cell_of_row}
use Rattle.point_rows.specs.declared.later.Entry.{Entry}
use Rattle.point_rows.specs.declared.later.Entry.TheVariants as entry
use Rattle.point_rows.specs.declared.later.Later.{Later}
use Rattle.point_rows.specs.Rows.{entry_at, IsFit, IsEntrySpot}
use Rattle.scope_entries.specs.Entries.{line_cell, plain_now, own_of, is_own_spot, IsOwnLine, IsAnswerNow, IsTurn}
use Rattle.scope_entries.specs.Entries.{HasNothing, WaitsForState, AreTold, kept_turn, nothing_turn, IsAbsent}
use Rattle.scope_entries.specs.declared.keeping.Turn.{Turn}
use Rattle.scope_entries.specs.declared.keeping.Turn.TheVariants as turn
use Rattle.scope_entries.specs.declared.settling.Settling.TheVariants as settling
use Rattle.scope_entries.proofs.GoesLemmas.{kept_settled, kept_absent, settled_decided}
use Rattle.scope_entries.proofs.OwnLemmas.{own_entry, own_line, not_own}

-- a line of the scope is one of a parameter or a variable, and has an entry
pub own_is_entry : (t : Table) (f j : ℕ) → IsOwnLine t f j → IsEntrySpot (line_at t.lines.items j).spot
own_is_entry t f j l = own_entry f (line_at t.lines.items j).spot l.is_own

pub entry_within : (t : Table) (l : Later) (j : ℕ) → IsFit t l → j < length t.lines.items
    → j < length l.entries.items
entry_within t l j fit h = subst (λ (n : ℕ). j < n) (sym fit.entries) h

pub line_within : (t : Table) (j : ℕ) → j < length (rows_in t) → j < length t.lines.items
line_within t j h = let n = length_rows (scopes_of t) t.lines.items in omega (arith, n, h)

module _ (t : Table) (l : Later) (f j : ℕ) (ready : IsReady t) (there : f < length t.frames.items)
    (own : IsOwnLine t f j) where
  pub nothing_turns : IsAnswerNow t l (line_cell t j) answer.Empty → HasNothing t l f j
  nothing_turns h = record { is_own = own_line t f ready there j own; is_nothing = h }

  pub state_turns : (k : ResourceId) → plain_now t l (line_cell t j) ≡ waits (state k) → WaitsForState t l f k
  state_turns k h = record { cell = line_cell t j; is_own = own_line t f ready there j own; is_awaited = h }

  module _ (on : Bool) (other : ℕ) (awaited : IsAnswerNow t l (line_cell t j) (answer.Waits other)) where
    within : other < length t.lines.items
    within = line_within t other awaited.0

    row_is : line_cell t other ≡ (row_at (rows_in t) other).cell
    row_is = cell_of_row t other within

    by_own : (b : Bool) → is_own_spot f (line_at t.lines.items other).spot ≡ b → (r : Turn)
        → (is_own_spot f (line_at t.lines.items other).spot ≡ true → r ≡ turn.Waiting)
        → (is_own_spot f (line_at t.lines.items other).spot ≡ false → r ≡ turn.Stopped (settling.Line other))
        → IsTurn on t l l f j r
    by_own true e r g h =
        subst (IsTurn on t l l f j) (sym (g e)) (
          refl,
          record {
            other = (row_at (rows_in t) other).cell;
            is_own = subst (λ (c : Cell). Has c (own_of t f)) row_is
                (own_line t f ready there other (record { listed = within; is_own = e }));
            is_awaited = awaited.1;
          },
        )
    by_own false e r g h =
        subst (IsTurn on t l l f j) (sym (h e)) (record {
          cell = line_cell t j;
          is_own = own_line t f ready there j own;
          listed = awaited.0;
          is_awaited = awaited.1;
          is_other =
              λ c. not_own t f ready there other within e
              (subst (λ (d : Cell). Has d (own_of t f)) (sym row_is) c);
        })

    pub waiting_turns : (r : Turn) → (is_own_spot f (line_at t.lines.items other).spot ≡ true → r ≡ turn.Waiting)
        → (is_own_spot f (line_at t.lines.items other).spot ≡ false → r ≡ turn.Stopped (settling.Line other))
        → IsTurn on t l l f j r
    waiting_turns r g h = by_own (is_own_spot f (line_at t.lines.items other).spot) refl r g h

-- ---- a line that has an entry, or is told to have no value

pub is_vacant : (on : Bool) (e : Entry) (j : ℕ) → kept_turn on e j ≡ None → e ≡ entry.Missing
is_vacant on entry.Missing j h = refl
is_vacant on (entry.Value v) j h = absurd (cc)
is_vacant on entry.Away j h = absurd (cc)

module _ (t : Table) (l m : Later) (f j : ℕ) (ready : IsReady t) (there : f < length t.frames.items)
    (own : IsOwnLine t f j) where
  -- it has none by what is known then
  pub absent_turns : (on : Bool) → (on ≡ true → IsAbsent t m (line_cell t j)) → (on ≡ false → m ≡ l)
      → entry_told (plain_now t l (line_cell t j)) ≡ absent → IsTurn on t l m f j (nothing_turn on j)
  absent_turns true a b h = inr (a refl)
  absent_turns false a b h =
      (refl, subst (λ (z : Later). HasNothing t z f j) (sym (b refl)) (nothing_turns t l f j ready there own h))

module _ (t : Table) (l : Later) (f j : ℕ) (ready : IsReady t) (there : f < length t.frames.items)
    (own : IsOwnLine t f j) (told : AreTold t l) where
  pub kept_turns : (on : Bool) (e : Entry) → entry_at l.entries.items j ≡ e → (r : Turn) → kept_turn on e j ≡ Some r
      → IsTurn on t l l f j r
  kept_turns on (entry.Value v) e r h =
      subst (IsTurn on t l l f j) (same_Some turn.Kept r h)
      (settled_decided on t l (line_cell t j)
      (kept_settled t j ready own.listed (own_is_entry t f j own) l told v e))
  kept_turns on entry.Away e r h =
      let a = kept_absent t j ready own.listed (own_is_entry t f j own) l told e in
      subst (IsTurn on t l l f j) (same_Some (nothing_turn on j) r h)
      (absent_turns t l l f j ready there own on (λ q. a) (λ q. refl) a.is_absent)
  kept_turns on entry.Missing e r h = absurd (cc)
