-- What is told of a cell that is listed.
use Rattle.std.proofs.Common.{◌≡◌, ◌⊎◌, inl, inr, ℕ, ◌<◌, Bool, true, length, Option, Some, None, ap, ◌∙◌, refl, ◌-◌}
use Rattle.arm_value.specs.Json.{Json}
use Rattle.reading.specs.Knowledge.{Known, known, Told, told, by_entry, value, finished, and_then}
use Rattle.plan_cells.specs.Cells.{Cell, parent, admits}
use Rattle.plan_cells.specs.Guarded.{told_by, told_where, Reads}
use Rattle.plan_cells.proofs.CellLemmas.{guarded_told}
use Rattle.plan_cells.specs.Meaning.{meaning, plain}
use Rattle.plan_cells.specs.Children.{Has, roots}
use Rattle.plan_cells.proofs.ChildLemmas.{root_is, child_is}
use Rattle.plan_table.specs.Rows.{status_of, table, known_by}
use Rattle.plan_table.specs.Sound.{IsOpenedBy}
use Rattle.plan_table.specs.declared.table.Table.{Table}
use Rattle.plan_table.specs.Lines.{status_in}
use Rattle.plan_table.specs.Whole.{whole_of, rows_in}
use Rattle.plan_table.specs.Found.{state_at}
use Rattle.plan_sight.specs.Ready.{IsReady, told_in}
use Rattle.plan_sight.proofs.LookLemmas.{cell_at, status_at}
use Rattle.reading.specs.Reading.{pure, done, continued}
use Rattle.reading.proofs.Parts.{told-continued}

by_parent : (q : Cell → Known Json) (c : Cell) (o : Option Cell) (t : Told Cell (Option Json)) → parent c ≡ o
    → told_by q c (parent c) t ≡ told_by q c o t
by_parent q c o t e = ap (λ p. told_by q c p t) e

where_true : (b : Bool) (t : Told Cell (Option Json)) → b ≡ true → told_where b t ≡ t
where_true b t e = ap (λ x. told_where x t) e

by_value : (q : Cell → Known Json) (c d : Cell) (v : Json) (t : Told Cell (Option Json)) → q d ≡ known v
    → admits c (Some v) ≡ true → told_by q c (Some d) t ≡ t
by_value q c d v t e a =
    ap (λ u. by_entry d (λ o. told_where (admits c o) t) u) e ∙ where_true (admits c (Some v)) t a

module _ (t : Table) (c : Cell) where
  abbrev q : Cell → Known Json
  q = table (status_of (rows_in t))

  of_root : Has c (roots (whole_of t))
      → told_by q c (parent c) (told q (plain (whole_of t) c)) ≡ told q (plain (whole_of t) c)
  of_root h = by_parent q c None (told q (plain (whole_of t) c)) (root_is (whole_of t) c h).0

  of_opened : IsOpenedBy (whole_of t) (status_of (rows_in t)) c
      → told_by q c (parent c) (told q (plain (whole_of t) c)) ≡ told q (plain (whole_of t) c)
  of_opened h =
      let i = child_is (whole_of t) h.0 h.1.0 c h.1.1.1 in
      by_parent q c (Some h.0) (told q (plain (whole_of t) c)) i.has_parent
      ∙ by_value q c h.0 h.1.0 (told q (plain (whole_of t) c)) (ap known_by h.1.1.0) i.admitted

  by_guard : told_in t (meaning (whole_of t) c) ≡ told_by q c (parent c) (told q (plain (whole_of t) c))
  unfolding meaning
  by_guard = guarded_told q c (plain (whole_of t) c)

  pub told_there : Has c (roots (whole_of t)) ⊎ IsOpenedBy (whole_of t) (status_of (rows_in t)) c
      → told_in t (meaning (whole_of t) c) ≡ told_in t (plain (whole_of t) c)
  told_there (inl h) = by_guard ∙ of_root h
  told_there (inr h) = by_guard ∙ of_opened h

-- by its parent
pub told_listed : (t : Table) (j : ℕ) → IsReady t → j < length t.lines.items
    → told_in t (meaning (whole_of t) (cell_at t j)) ≡ told_in t (plain (whole_of t) (cell_at t j))
told_listed t j ready h =
    told_there t (cell_at t j) (ready.sound.good.is_there (cell_at t j) (status_in (state_at t j))
    (status_at t j ready h))

-- What a table says of readings, part by part.
pub told_pure : {A : Type 0} (t : Table) (x : A) → told_in t (pure x) ≡ value x
unfolding told
told_pure t x = refl

pub told_done : {A : Type 0} (t : Table) (o : Option A) → told_in t (done o) ≡ finished o
unfolding told
told_done t o = refl

pub goes : {A B : Type 0} (t : Table) (r : Reads A) (f : A → Reads B)
    → told_in t (continued r f) ≡ and_then (told_in t r) (λ x. told_in t (f x))
goes {A} {B} t r f = told-continued Cell Json A B (table (status_of (rows_in t))) r f
