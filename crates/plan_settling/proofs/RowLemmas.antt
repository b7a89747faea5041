-- Rows of a filled sheet for which there is no plan, by their lines.
use Rattle.std.proofs.Common.{◌≡◌, inl, inr, ℕ, zero, suc, ◌+◌, ◌<◌, ◌≤◌, Bool, true, false, true≢false}
use Rattle.std.proofs.Common.{List, [], ◌∷◌, length}
use Rattle.std.proofs.Common.{get_or, refl, sym, ap, ◌∙◌, arith}
use Rattle.std.specs.Prelude.{not, ◌||◌}
use Rattle.foundation.proofs.Comparisons.{is_or_lt}
use Rattle.deploy_cells.specs.Cells.{Cell, parameter, variable, offered, output}
use Rattle.deploy_cells.specs.Cells.{count, included, name, deployments, state}
use Rattle.plan_cells.specs.Meaning.{Deployment}
use Rattle.plan_filling.specs.Rows.{Status, New, Open, Value, Empty, Late, Row, row_at, IsFinished}
use Rattle.plan_filling.specs.Steps.{Filled}
use Rattle.plan_refusals.specs.Refusals.{is_needed}
use Rattle.plan_table.specs.declared.line.Line.{Line}
use Rattle.plan_table.specs.declared.table.Table.{Table}
use Rattle.plan_table.specs.Lines.{line_at, row_of}
use Rattle.plan_table.specs.Whole.{scopes_of, rows_in}
use Rattle.plan_table.proofs.LaidLemmas.{row_here, length_rows}
use Rattle.plan_tasks.specs.Answered.{is_asked, has_value, AreRowsAnswered}
use Rattle.plan_settling.specs.Refused.{is_refused, AreSettled}

-- ---- lines

line_here : (ls : List Line) (j : ℕ) (x : Line) → j < length ls → x ≡ get_or ls j x → line_at ls j ≡ x
line_here [] j x h e = absurd (omega (arith, h))
line_here (l ∷ ls) zero x h e = sym e
line_here (l ∷ ls) (suc j) x h e = line_here ls j x (omega (arith, h)) e

-- the rows before a number refuse no plan
abbrev pub AreSettledTo : Table → ℕ → Type 0
AreSettledTo t i = (j : ℕ) → j < i → is_refused (row_at (rows_in t) j) ≡ false

module _ (t : Table) where
  long : length (rows_in t) ≡ length t.lines.items
  long = length_rows (scopes_of t) t.lines.items

  pub row_listed : (i : ℕ) → i < length t.lines.items → i < length (rows_in t)
  row_listed i h = let n = long in omega (arith, n, h)

  pub refused_by : (i : ℕ) (l : Line) (b : Bool) → i < length t.lines.items → l ≡ get_or t.lines.items i l
      → b ≡ is_refused (row_of (scopes_of t) l) → is_refused (row_at (rows_in t) i) ≡ b
  refused_by i l b h e g =
      ap is_refused (row_here (scopes_of t) t.lines.items i h)
      ∙ ap (λ (x : Line). is_refused (row_of (scopes_of t) x)) (line_here t.lines.items i l h e) ∙ sym g

  pub settled_more : (i : ℕ) → AreSettledTo t i → is_refused (row_at (rows_in t) i) ≡ false → AreSettledTo t (i + 1)
  settled_more i s e j h =
      elim (is_or_lt j i h) [
        | inl x ↦ ap (λ (k : ℕ). is_refused (row_at (rows_in t) k)) x ∙ e
        | inr l ↦ s j l
      ]

  pub settled_end : (i : ℕ) → length t.lines.items ≤ i → AreSettledTo t i → AreSettled (rows_in t)
  settled_end i h s j l = s j (let n = long in omega (arith, n, h, l))

-- ---- rows that are settled

needed : (c : Cell) → is_needed c ≡ false → is_asked c ≡ false
needed (count p r) e = absurd (true≢false e)
needed (included p s) e = absurd (true≢false e)
needed (name p s) e = absurd (true≢false e)
needed (parameter p x) e = refl
needed (variable p x) e = refl
needed (offered p x) e = refl
needed (output p x) e = refl
needed (deployments p) e = refl
needed (state k) e = refl

with_value : (b : Bool) → (not b || true) ≡ true
with_value true = refl
with_value false = refl

not_asked : (b x : Bool) → b ≡ false → (not b || x) ≡ true
not_asked false x e = refl
not_asked true x e = absurd (true≢false e)

by_status : (c : Cell) (s : Status) → IsFinished s → is_refused (record { cell = c; status = s }) ≡ false
    → (not (is_asked c) || has_value s) ≡ true
by_status c New f e = absurd f
by_status c Open f e = absurd f
by_status c (Value v) f e = with_value (is_asked c)
by_status c Empty f e = not_asked (is_asked c) false (needed c e)
by_status c (Late k) f e = not_asked (is_asked c) false e

pub settled_answered : (d : Deployment) (rows : List Row) → Filled d rows → AreSettled rows → AreRowsAnswered rows
settled_answered d rows f s j h = by_status (row_at rows j).cell (row_at rows j).status (f.finished j h) (s j h)
