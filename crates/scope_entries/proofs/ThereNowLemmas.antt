-- What is told at a point of a cell that is there by its scope is what is told of its own reading.
use Rattle.std.proofs.Common.{◌≡◌, ◌⊎◌, inl, inr, ℕ, ◌<◌, Bool, true, [], ◌∷◌, length, Option, Some, None}
use Rattle.std.proofs.Common.{sym, ap, ◌∙◌}
use Rattle.arm_value.specs.Json.{Json}
use Rattle.reading.specs.Knowledge.{Known, known, Told, by_entry}
use Rattle.deploy_cells.specs.Cells.{Position, Cell, parent, opener, admits}
use Rattle.deploy_cells.specs.Guarded.{told_by, told_where}
use Rattle.deploy_cells.proofs.CellLemmas.{guarded_told}
use Rattle.plan_cells.specs.Meaning.{meaning, plain}
use Rattle.plan_cells.specs.Children.{Has, roots}
use Rattle.plan_cells.proofs.ChildLemmas.{root_is, child_is}
use Rattle.plan_filling.specs.Rows.{status_of, known_by}
use Rattle.plan_filling.specs.Sound.{IsOpenedBy}
use Rattle.plan_table.specs.declared.table.Table.{Table}
use Rattle.plan_table.specs.Lines.{status_in}
use Rattle.plan_table.specs.Whole.{whole_of, rows_in}
use Rattle.plan_table.specs.Found.{state_at}
use Rattle.plan_sight.specs.Ready.{IsReady}
use Rattle.plan_sight.proofs.LookLemmas.{cell_at, status_at}
use Rattle.point_rows.specs.declared.later.Later.{Later}
use Rattle.point_rows.specs.Rows.{known_now, told_now}
use Rattle.point_rows.proofs.RowsNowLemmas.{is_fixed}
use Rattle.point_rows.proofs.ToldNowLemmas.{fixed_known}
use Rattle.scope_entries.specs.Entries.{plain_now}

by_parent : (q : Cell → Known Json) (c : Cell) (o : Option Cell) (t : Told Cell (Option Json)) → parent c ≡ o
    → told_by q c (parent c) t ≡ told_by q c o t
by_parent q c o t e = ap (λ p. told_by q c p t) e

where_true : (b : Bool) (t : Told Cell (Option Json)) → b ≡ true → told_where b t ≡ t
where_true b t e = ap (λ x. told_where x t) e

pub by_value : (q : Cell → Known Json) (c d : Cell) (v : Json) (t : Told Cell (Option Json)) → q d ≡ known v
    → admits c (Some v) ≡ true → told_by q c (Some d) t ≡ t
by_value q c d v t e a =
    ap (λ u. by_entry d (λ o. told_where (admits c o) t) u) e ∙ where_true (admits c (Some v)) t a

pub guard_now : (q : Cell → Known Json) (c d : Cell) (v : Json) (t : Told Cell (Option Json)) → parent c ≡ Some d
    → q d ≡ known v → admits c (Some v) ≡ true → told_by q c (parent c) t ≡ t
guard_now q c d v t p e a = by_parent q c (Some d) t p ∙ by_value q c d v t e a

opener_fixed : (p : Position) (d : Cell) → opener p ≡ Some d → is_fixed d ≡ true
opener_fixed [] d e = absurd (cc)
opener_fixed (s ∷ p) d e =
    let same : Rattle.deploy_cells.specs.Cells.included p s ≡ d = cc in ap is_fixed (sym same)

module _ (t : Table) (l : Later) (c : Cell) where
  abbrev q : Cell → Known Json
  q = known_now t l

  pub by_guard : told_now t l (meaning (whole_of t) c) ≡ told_by q c (parent c) (plain_now t l c)
  unfolding meaning
  by_guard = guarded_told q c (plain (whole_of t) c)

  of_root : Has c (roots (whole_of t)) → told_by q c (parent c) (plain_now t l c) ≡ plain_now t l c
  of_root h = by_parent q c None (plain_now t l c) (root_is (whole_of t) c h).0

  of_opened : (p : Position) → parent c ≡ opener p → IsOpenedBy (whole_of t) (status_of (rows_in t)) c
      → told_by q c (parent c) (plain_now t l c) ≡ plain_now t l c
  of_opened p e h =
      let i = child_is (whole_of t) h.0 h.1.0 c h.1.1.1 in
      guard_now q c h.0 h.1.0 (plain_now t l c) i.has_parent
      (sym (fixed_known t l h.0 (opener_fixed p h.0 (sym e ∙ i.has_parent))) ∙ ap known_by h.1.1.0) i.admitted

  pub told_there : (p : Position) → parent c ≡ opener p
      → Has c (roots (whole_of t)) ⊎ IsOpenedBy (whole_of t) (status_of (rows_in t)) c
      → told_now t l (meaning (whole_of t) c) ≡ plain_now t l c
  told_there p e (inl h) = by_guard ∙ of_root h
  told_there p e (inr h) = by_guard ∙ of_opened p e h

-- of a line
pub line_there : (t : Table) (l : Later) (j : ℕ) (p : Position) → IsReady t → j < length t.lines.items
    → parent (cell_at t j) ≡ opener p → told_now t l (meaning (whole_of t) (cell_at t j)) ≡ plain_now t l (cell_at t j)
line_there t l j p ready h e =
    told_there t l (cell_at t j) p e
    (ready.sound.good.is_there (cell_at t j) (status_in (state_at t j)) (status_at t j ready h))
