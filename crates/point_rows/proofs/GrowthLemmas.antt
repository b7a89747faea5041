-- What is known once a state more is kept.
use Rattle.std.proofs.Common.{◌≡◌, inl, inr, Bool, true, false, List, [], ◌∷◌, ◌++◌, map, Option, Some, None, refl}
use Rattle.std.proofs.Common.{sym, ap, subst, ◌∙◌}
use Rattle.std.specs.Prelude.{if◌then◌else◌}
use Rattle.arm_value.specs.Json.{Json}
use Rattle.reading.specs.Knowledge.{Known, known, absent, missing, Stays, Grows}
use Rattle.deploy_cells.specs.Cells.{Cell, state}
use Rattle.deploy_cells.specs.Same.{same}
use Rattle.deploy_cells.proofs.SameLemmas.{cell_is}
use Rattle.plan_filling.specs.Rows.{Row, Status, status_of, known_by, table}
use Rattle.plan_filling.proofs.RowLemmas.{by_same, found_later}
use Rattle.plan_table.specs.declared.table.Table.{Table}
use Rattle.plan_table.specs.Whole.{scopes_of}
use Rattle.point_rows.specs.declared.later.Entry.{Entry}
use Rattle.point_rows.specs.declared.later.StateAt.{StateAt}
use Rattle.point_rows.specs.declared.later.Later.{Later}
use Rattle.point_rows.specs.Rows.{status_told, state_row, line_rows, known_now, HasState, HasSame}
use Rattle.point_rows.proofs.StateLemmas.{no_line}

pub stays : (x : Known Json) → Stays x x
stays (known v) = refl
stays absent = refl
stays missing = tt

pub stays_after : (x y z : Known Json) → Stays x y → Stays y z → Stays x z
stays_after (known v) y z a b = subst (λ u. Stays u z) a b
stays_after absent y z a b = subst (λ u. Stays u z) a b
stays_after missing y z a b = tt

abbrev Stay : Option Status → Option Status → Type 0
Stay old new = Stays (known_by old) (known_by new)

by_test : (b : Bool) (s : Status) (old new : Option Status) → Stay old new
    → Stay (if b then Some s else old) (if b then Some s else new)
by_test true s old new h = stays (known_by (Some s))
by_test false s old new h = h

-- where none of the other rows is of the state
state_stays : (ss : List StateAt) (s : StateAt) (lines : List Row) (c : Cell)
    → status_of lines (state s.key) ≡ None
    → Stay (status_of (map state_row ss ++ lines) c) (status_of (map state_row (ss ++ s ∷ []) ++ lines) c)
state_stays [] s lines c none =
    elim (by_same (state s.key) c) [
      | inl e ↦ subst (λ (o : Option Status). Stay o (status_of (state_row s ∷ lines) c))
          (sym (ap (status_of lines) (sym (cell_is (state s.key) c e)) ∙ none)) tt
      | inr e ↦ subst (λ (o : Option Status). Stay (status_of lines c) o)
          (sym (found_later (state_row s) lines c e)) (stays (known_by (status_of lines c)))
    ]
state_stays (y ∷ ss) s lines c none =
    by_test (same (state y.key) c) (status_told y.state) (status_of (map state_row ss ++ lines) c)
    (status_of (map state_row (ss ++ s ∷ []) ++ lines) c) (state_stays ss s lines c none)

module _ (t : Table) (l m : Later) where
  abbrev lines_with : List Entry → List Row
  lines_with es = line_rows (scopes_of t) t.lines.items es

  -- what was known stays
  pub state_grows : (s : StateAt) → HasState l s m → Grows (known_now t l) (known_now t m)
  state_grows s adds c =
      let rows_are : map state_row m.states.items ++ lines_with m.entries.items
      ≡ map state_row (l.states.items ++ s ∷ []) ++ lines_with l.entries.items
      = ap (λ (ss : List StateAt). map state_row ss ++ lines_with m.entries.items) adds.states
      ∙ ap (λ (es : List Entry). map state_row (l.states.items ++ s ∷ []) ++ lines_with es) adds.entries in
      subst (λ (rs : List Row). Stay (status_of (map state_row l.states.items ++ lines_with l.entries.items) c)
      (status_of rs c)) (sym rows_are)
      (state_stays l.states.items s (lines_with l.entries.items) c
      (no_line (scopes_of t) t.lines.items l.entries.items s.key))

  -- the same is known
  pub same_known : HasSame l m → known_now t m ≡ known_now t l
  same_known h = λ i. table (status_of (map state_row (h.states i) ++ lines_with (h.entries i)))

  pub same_grows : HasSame l m → Grows (known_now t l) (known_now t m)
  same_grows h = subst (λ z. Grows (known_now t l) z) (sym (same_known h)) (λ c. stays (known_now t l c))
