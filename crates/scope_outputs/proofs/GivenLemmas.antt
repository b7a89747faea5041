-- The rows of a point once the entry of the condition of an output is another.
use Rattle.std.proofs.Common.{◌≡◌, ◌⊎◌, inl, inr, ℕ, zero, suc, ◌<◌, Bool, true, false, List, [], ◌∷◌, ◌++◌, length}
use Rattle.std.proofs.Common.{Option, Some, refl, sym, subst, arith}
use Rattle.std.specs.Prelude.{slice_set, if◌then◌else◌}
use Rattle.deploy_cells.specs.Cells.{Position, Cell, offered, output}
use Rattle.deploy_cells.specs.Same.{same}
use Rattle.deploy_cells.proofs.SameLemmas.{cell_is}
use Rattle.plan_cells.specs.Children.{output_names}
use Rattle.plan_filling.specs.Rows.{Status, Row, status_of, known_by}
use Rattle.plan_table.specs.declared.line.Line.{Line}
use Rattle.plan_table.specs.declared.line.Spot.{Spot}
use Rattle.plan_table.specs.declared.line.Spot.TheVariants.{Parameter, Variable, Offered, Output, Count, Included}
use Rattle.plan_table.specs.declared.line.Spot.TheVariants.{Name, Deployments}
use Rattle.plan_table.specs.declared.line.State.{State}
use Rattle.plan_table.specs.Opened.{Opened, opened_at}
use Rattle.plan_table.specs.Lines.{name_at, cell_of, line_at}
use Rattle.point_rows.specs.declared.later.Entry.{Entry}
use Rattle.point_rows.specs.Rows.{condition_status, output_status, given_rows, rows_by, line_rows}

module _ (os : List Opened) (p : Position) (x : List ℕ) (c : Cell) (e : Entry) where
  -- rows that say the same of a cell; or it is the condition or the output, and they say what the entry does
  abbrev pub Says : Option Status → Option Status → Type 0
  Says new old =
      (known_by new ≡ known_by old)
      ⊎ (((c ≡ offered p x) × (known_by new ≡ known_by (Some (condition_status e))))
      ⊎ ((c ≡ output p x) × (known_by new ≡ known_by (Some (output_status e)))))

  by_test : (b : Bool) (s : Status) (new old : Option Status) → Says new old
      → Says (if b then Some s else new) (if b then Some s else old)
  by_test true s new old h = inl refl
  by_test false s new old h = h

  -- after other rows
  pub after_rows : (xs new old : List Row) → Says (status_of new c) (status_of old c)
      → Says (status_of (xs ++ new) c) (status_of (xs ++ old) c)
  after_rows [] new old h = h
  after_rows (r ∷ xs) new old h =
      by_test (same r.cell c) r.status (status_of (xs ++ new) c) (status_of (xs ++ old) c) (after_rows xs new old h)

  by_tests : (d : Entry) (rest : List Row) (a b : Bool) → same (offered p x) c ≡ a → same (output p x) c ≡ b
      → Says
      (if a then Some (condition_status e) else (if b then Some (output_status e) else status_of rest c))
      (if a then Some (condition_status d) else (if b then Some (output_status d) else status_of rest c))
  by_tests d rest true b h g = inr (inl (sym (cell_is (offered p x) c h), refl))
  by_tests d rest false true h g = inr (inr (sym (cell_is (output p x) c g), refl))
  by_tests d rest false false h g = inl refl

  given_here : (s : Spot) (y : State) (d : Entry) → cell_of os s ≡ offered p x
      → rows_by os s y d ≡ given_rows (offered p x) (output p x) d
  given_here (Parameter f n) y d h = absurd (cc)
  given_here (Variable f n) y d h = absurd (cc)
  given_here (Offered f n) y d h =
      let at : (opened_at os f).position ≡ p = cc in
      let named : name_at (output_names (opened_at os f).template) n ≡ x = cc in
      λ i. given_rows (offered (at i) (named i)) (output (at i) (named i)) d
  given_here (Output f n) y d h = absurd (cc)
  given_here (Count f r) y d h = absurd (cc)
  given_here (Included f r i) y d h = absurd (cc)
  given_here (Name f r i) y d h = absurd (cc)
  given_here (Deployments f) y d h = absurd (cc)

  spot_given : (s : Spot) (y : State) (d : Entry) (rest : List Row) → cell_of os s ≡ offered p x
      → Says (status_of (rows_by os s y e ++ rest) c) (status_of (rows_by os s y d ++ rest) c)
  spot_given s y d rest h =
      subst (λ (rs : List Row). Says (status_of (rs ++ rest) c) (status_of (rows_by os s y d ++ rest) c))
      (sym (given_here s y e h))
      (subst (λ (rs : List Row). Says (status_of (given_rows (offered p x) (output p x) e ++ rest) c)
      (status_of (rs ++ rest) c)) (sym (given_here s y d h))
      (by_tests d rest (same (offered p x) c) (same (output p x) c) refl refl))

  pub lines_given : (ls : List Line) (es : List Entry) (j : ℕ) → j < length es → j < length ls
      → cell_of os (line_at ls j).spot ≡ offered p x
      → Says (status_of (line_rows os ls (slice_set es j e)) c) (status_of (line_rows os ls es) c)
  lines_given [] es j h g i = absurd (omega (arith, g))
  lines_given (l ∷ ls) [] j h g i = absurd (omega (arith, h))
  lines_given (l ∷ ls) (d ∷ es) zero h g i = spot_given l.spot l.state d (line_rows os ls es) i
  lines_given (l ∷ ls) (d ∷ es) (suc j) h g i =
      after_rows (rows_by os l.spot l.state d) (line_rows os ls (slice_set es j e)) (line_rows os ls es)
      (lines_given ls es j (omega (arith, h)) (omega (arith, g)) i)
