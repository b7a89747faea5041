-- Which row of a point is found for a cell.
use Rattle.std.proofs.Common.{◌≡◌, inl, inr, ℕ, zero, suc, ◌<◌, Bool, true, false, true≢false, List, [], ◌∷◌}
use Rattle.std.proofs.Common.{◌++◌, map, length, Some, None, refl, sym, ap, subst, ◌∙◌, arith}
use Rattle.std.specs.Prelude.{if◌then◌else◌}
use Rattle.deploy_cells.specs.Cells.{Position, Cell, offered, output, count, included, name}
use Rattle.deploy_cells.specs.Cells.{deployments, state}
use Rattle.deploy_cells.specs.Same.{same}
use Rattle.deploy_cells.proofs.SameLemmas.{cell_is}
use Rattle.plan_cells.specs.Desired.{is_state}
use Rattle.plan_cells.specs.Children.{output_names}
use Rattle.tag_places.specs.Places.{Places, ArePlaces}
use Rattle.plan_filling.specs.Rows.{Row, row_at, status_of, AreDistinct}
use Rattle.plan_filling.proofs.RowLemmas.{by_same, found_first, found_later, status_found, joined_none}
use Rattle.plan_table.specs.declared.line.Line.{Line}
use Rattle.plan_table.specs.declared.line.Spot.{Spot}
use Rattle.plan_table.specs.declared.line.Spot.TheVariants.{Parameter, Variable, Offered, Output, Count, Included}
use Rattle.plan_table.specs.declared.line.Spot.TheVariants.{Name, Deployments}
use Rattle.plan_table.specs.declared.line.State.{State}
use Rattle.plan_table.specs.Opened.{Opened, opened_at}
use Rattle.plan_table.specs.Lines.{name_at, cell_of, line_at, rows_of, status_in}
use Rattle.plan_table.proofs.LaidLemmas.{row_here, length_rows}
use Rattle.point_rows.specs.declared.later.Entry.{Entry}
use Rattle.point_rows.specs.declared.later.Entry.TheVariants as entry
use Rattle.point_rows.specs.declared.later.StateAt.{StateAt}
use Rattle.point_rows.specs.declared.later.Later.{Later}
use Rattle.point_rows.specs.Rows.{entry_at, state_row, settled, condition_status, output_status, given_rows, rows_by}
use Rattle.point_rows.specs.Rows.{line_rows, state_tag, AreIndexed, IsEntrySpot}

-- ---- the index

-- it is that of the same states
pub indexed_on : (l m : Later) → m.states.items ≡ l.states.items → m.places ≡ l.places → AreIndexed l → AreIndexed m
indexed_on l m s p a =
    subst (λ (z : Places). ArePlaces z (map state_tag m.states.items)) (sym p)
    (subst (λ (ss : List StateAt). ArePlaces l.places (map state_tag ss)) (sym s) a)

-- ---- cells of two sorts

abbrev pub is_output : Cell → Bool
is_output (output p x) = true
is_output _ = false

-- a count, a condition of an instance, a name, or the nested deployments of a scope
abbrev pub is_fixed : Cell → Bool
is_fixed (count p r) = true
is_fixed (included p s) = true
is_fixed (name p s) = true
is_fixed (deployments p) = true
is_fixed _ = false

-- cells differ of which one passes a test
pub apart_by : (f : Cell → Bool) (c d : Cell) → f c ≡ false → f d ≡ true → same c d ≡ false
apart_by f c d h i = elim (by_same c d) [
  | inl e ↦ absurd (true≢false (sym i ∙ ap f (sym (cell_is c d e)) ∙ h))
  | inr e ↦ e
]

pub apart_back : (f : Cell → Bool) (c d : Cell) → f c ≡ true → f d ≡ false → same c d ≡ false
apart_back f c d h i = elim (by_same c d) [
  | inl e ↦ absurd (true≢false (sym h ∙ ap f (cell_is c d e) ∙ i))
  | inr e ↦ e
]

-- ---- the rows of a line that has another cell

module _ (os : List Opened) (rest : List Row) where
  given_by : (p : Position) (x : List ℕ) (e : Entry) (c : Cell) → same (offered p x) c ≡ false
      → same (output p x) c ≡ false → status_of (given_rows (offered p x) (output p x) e ++ rest) c ≡ status_of rest c
  given_by p x e c h i =
      found_later (record { cell = offered p x; status = condition_status e })
      (record { cell = output p x; status = output_status e } ∷ rest) c h
      ∙ found_later (record { cell = output p x; status = output_status e }) rest c i

  -- of a cell that is no output
  pub skip_plain : (s : Spot) (x : State) (e : Entry) (c : Cell) → is_output c ≡ false → same (cell_of os s) c ≡ false
      → status_of (rows_by os s x e ++ rest) c ≡ status_of rest c
  skip_plain (Parameter f n) x e c o h =
      found_later (record { cell = cell_of os (Parameter f n); status = settled x e }) rest c h
  skip_plain (Variable f n) x e c o h =
      found_later (record { cell = cell_of os (Variable f n); status = settled x e }) rest c h
  skip_plain (Offered f n) x e c o h =
      given_by (opened_at os f).position (name_at (output_names (opened_at os f).template) n) e c h
      (apart_back is_output (cell_of os (Output f n)) c refl o)
  skip_plain (Output f n) x e c o h = refl
  skip_plain (Count f r) x e c o h =
      found_later (record { cell = cell_of os (Count f r); status = status_in x }) rest c h
  skip_plain (Included f r i) x e c o h =
      found_later (record { cell = cell_of os (Included f r i); status = status_in x }) rest c h
  skip_plain (Name f r i) x e c o h =
      found_later (record { cell = cell_of os (Name f r i); status = status_in x }) rest c h
  skip_plain (Deployments f) x e c o h =
      found_later (record { cell = cell_of os (Deployments f); status = status_in x }) rest c h

  -- of an output, by its condition
  pub skip_output : (s : Spot) (x : State) (e : Entry) (q : Position) (y : List ℕ)
      → same (cell_of os s) (offered q y) ≡ false
      → status_of (rows_by os s x e ++ rest) (output q y) ≡ status_of rest (output q y)
  skip_output (Parameter f n) x e q y h =
      found_later (record { cell = cell_of os (Parameter f n); status = settled x e }) rest (output q y) refl
  skip_output (Variable f n) x e q y h =
      found_later (record { cell = cell_of os (Variable f n); status = settled x e }) rest (output q y) refl
  skip_output (Offered f n) x e q y h =
      given_by (opened_at os f).position (name_at (output_names (opened_at os f).template) n) e (output q y) refl h
  skip_output (Output f n) x e q y h = refl
  skip_output (Count f r) x e q y h =
      found_later (record { cell = cell_of os (Count f r); status = status_in x }) rest (output q y) refl
  skip_output (Included f r i) x e q y h =
      found_later (record { cell = cell_of os (Included f r i); status = status_in x }) rest (output q y) refl
  skip_output (Name f r i) x e q y h =
      found_later (record { cell = cell_of os (Name f r i); status = status_in x }) rest (output q y) refl
  skip_output (Deployments f) x e q y h =
      found_later (record { cell = cell_of os (Deployments f); status = status_in x }) rest (output q y) refl

-- ---- the line of a cell

module _ (os : List Opened) where
  -- no earlier line has the cell
  abbrev pub IsFirstLine : List Line → ℕ → Cell → Type 0
  IsFirstLine ls j c = (i : ℕ) → i < j → same (cell_of os (line_at ls i).spot) c ≡ false

  earlier : (ls : List Line) (j i : ℕ) → AreDistinct (rows_of os ls) → j < length ls → i < j
      → same (cell_of os (line_at ls i).spot) (cell_of os (line_at ls j).spot) ≡ false
  earlier [] j i a h g = absurd (omega (arith, h))
  earlier (l ∷ ls) zero i a h g = absurd (omega (arith, g))
  earlier (l ∷ ls) (suc j) zero a h g =
      let less : j < length ls = omega (arith, h) in
      let is = row_here os ls j less in
      let found : status_of (rows_of os ls) (row_at (rows_of os ls) j).cell ≡ Some (row_at (rows_of os ls) j).status =
      status_found (rows_of os ls) j a.1 (let n = length_rows os ls in omega (arith, n, less)) in
      let there : status_of (rows_of os ls) (cell_of os (line_at ls j).spot) ≡ Some (status_in (line_at ls j).state) =
      subst (λ (r : Row). status_of (rows_of os ls) r.cell ≡ Some r.status) is found in
      elim (by_same (cell_of os l.spot) (cell_of os (line_at ls j).spot)) [
        | inl e ↦ (let none : status_of (rows_of os ls) (cell_of os (line_at ls j).spot) ≡ None =
            subst (λ (x : Cell). status_of (rows_of os ls) x ≡ None)
            (cell_is (cell_of os l.spot) (cell_of os (line_at ls j).spot) e) a.0 in absurd (cc))
        | inr e ↦ e
      ]
  earlier (l ∷ ls) (suc j) (suc i) a h g = earlier ls j i a.1 (omega (arith, h)) (omega (arith, g))

  pub is_first_line : (ls : List Line) (j : ℕ) → AreDistinct (rows_of os ls) → j < length ls
      → IsFirstLine ls j (cell_of os (line_at ls j).spot)
  is_first_line ls j a h = λ i g. earlier ls j i a h g

  -- the rows from the line on
  abbrev pub rows_from : List Line → List Entry → ℕ → List Row → List Row
  rows_from ls es j rest = rows_by os (line_at ls j).spot (line_at ls j).state (entry_at es j) ++ rest

  pub reach_plain : (ls : List Line) (es : List Entry) (j : ℕ) (c : Cell) → is_output c ≡ false → j < length ls
      → IsFirstLine ls j c
      → (rest : List Row) × (status_of (line_rows os ls es) c ≡ status_of (rows_from ls es j rest) c)
  reach_plain [] es j c o h f = absurd (omega (arith, h))
  reach_plain (l ∷ ls) [] zero c o h f = (line_rows os ls [], refl)
  reach_plain (l ∷ ls) (e ∷ es) zero c o h f = (line_rows os ls es, refl)
  reach_plain (l ∷ ls) [] (suc j) c o h f =
      let more = reach_plain ls [] j c o (omega (arith, h)) (λ i g. f (suc i) (omega (arith, g))) in
      (more.0, skip_plain os (line_rows os ls []) l.spot l.state entry.Missing c o (f zero (omega arith)) ∙ more.1)
  reach_plain (l ∷ ls) (e ∷ es) (suc j) c o h f =
      let more = reach_plain ls es j c o (omega (arith, h)) (λ i g. f (suc i) (omega (arith, g))) in
      (more.0, skip_plain os (line_rows os ls es) l.spot l.state e c o (f zero (omega arith)) ∙ more.1)

  pub reach_output : (ls : List Line) (es : List Entry) (j : ℕ) (q : Position) (y : List ℕ) → j < length ls
      → IsFirstLine ls j (offered q y)
      → (rest : List Row) × (status_of (line_rows os ls es) (output q y) ≡ status_of (rows_from ls es j rest) (output q
      y))
  reach_output [] es j q y h f = absurd (omega (arith, h))
  reach_output (l ∷ ls) [] zero q y h f = (line_rows os ls [], refl)
  reach_output (l ∷ ls) (e ∷ es) zero q y h f = (line_rows os ls es, refl)
  reach_output (l ∷ ls) [] (suc j) q y h f =
      let more = reach_output ls [] j q y (omega (arith, h)) (λ i g. f (suc i) (omega (arith, g))) in
      (more.0, skip_output os (line_rows os ls []) l.spot l.state entry.Missing q y (f zero (omega arith)) ∙ more.1)
  reach_output (l ∷ ls) (e ∷ es) (suc j) q y h f =
      let more = reach_output ls es j q y (omega (arith, h)) (λ i g. f (suc i) (omega (arith, g))) in
      (more.0, skip_output os (line_rows os ls es) l.spot l.state e q y (f zero (omega arith)) ∙ more.1)

  entry_first : (s : Spot) (x : State) (e : Entry) (rest : List Row) → IsEntrySpot s
      → status_of (rows_by os s x e ++ rest) (cell_of os s) ≡ Some (settled x e)
  entry_first (Parameter f n) x e rest i =
      found_first (record { cell = cell_of os (Parameter f n); status = settled x e }) rest
      (cell_of os (Parameter f n)) refl
  entry_first (Variable f n) x e rest i =
      found_first (record { cell = cell_of os (Variable f n); status = settled x e }) rest
      (cell_of os (Variable f n)) refl
  entry_first (Offered f n) x e rest i = absurd i
  entry_first (Output f n) x e rest i = absurd i
  entry_first (Count f r) x e rest i = absurd i
  entry_first (Included f r k) x e rest i = absurd i
  entry_first (Name f r k) x e rest i = absurd i
  entry_first (Deployments f) x e rest i = absurd i

  no_output : (s : Spot) → IsEntrySpot s → is_output (cell_of os s) ≡ false
  no_output (Parameter f n) i = refl
  no_output (Variable f n) i = refl
  no_output (Offered f n) i = refl
  no_output (Output f n) i = absurd i
  no_output (Count f r) i = refl
  no_output (Included f r k) i = refl
  no_output (Name f r k) i = refl
  no_output (Deployments f) i = refl

  -- what a parameter or a variable is
  pub entry_found : (ls : List Line) (es : List Entry) (j : ℕ) → AreDistinct (rows_of os ls) → j < length ls
      → IsEntrySpot (line_at ls j).spot
      → status_of (line_rows os ls es) (cell_of os (line_at ls j).spot)
      ≡ Some (settled (line_at ls j).state (entry_at es j))
  entry_found ls es j a h i =
      let more = reach_plain ls es j (cell_of os (line_at ls j).spot) (no_output (line_at ls j).spot i) h
      (is_first_line ls j a h) in
      more.1 ∙ entry_first (line_at ls j).spot (line_at ls j).state (entry_at es j) more.0 i

  -- ---- cells that are as they are at the start

  unfixed : (s : Spot) (x : State) (e : Entry) (c : Cell) (xs ys : List Row) → is_fixed c ≡ true
      → status_of xs c ≡ status_of ys c
      → status_of (rows_by os s x e ++ xs) c
      ≡ status_of (record { cell = cell_of os s; status = status_in x } ∷ ys) c
  unfixed (Parameter f n) x e c xs ys h i =
      let apart = apart_by is_fixed (cell_of os (Parameter f n)) c refl h in
      found_later (record { cell = cell_of os (Parameter f n); status = settled x e }) xs c apart ∙ i
      ∙ sym (found_later (record { cell = cell_of os (Parameter f n); status = status_in x }) ys c apart)
  unfixed (Variable f n) x e c xs ys h i =
      let apart = apart_by is_fixed (cell_of os (Variable f n)) c refl h in
      found_later (record { cell = cell_of os (Variable f n); status = settled x e }) xs c apart ∙ i
      ∙ sym (found_later (record { cell = cell_of os (Variable f n); status = status_in x }) ys c apart)
  unfixed (Offered f n) x e c xs ys h i =
      given_by os xs (opened_at os f).position (name_at (output_names (opened_at os f).template) n) e c
      (apart_by is_fixed (cell_of os (Offered f n)) c refl h)
      (apart_by is_fixed (cell_of os (Output f n)) c refl h) ∙ i
      ∙ sym (found_later (record { cell = cell_of os (Offered f n); status = status_in x }) ys c
      (apart_by is_fixed (cell_of os (Offered f n)) c refl h))
  unfixed (Output f n) x e c xs ys h i =
      i ∙ sym (found_later (record { cell = cell_of os (Output f n); status = status_in x }) ys c
      (apart_by is_fixed (cell_of os (Output f n)) c refl h))
  unfixed (Count f r) x e c xs ys h i =
      ap (λ o. if same (cell_of os (Count f r)) c then Some (status_in x) else o) i
  unfixed (Included f r k) x e c xs ys h i =
      ap (λ o. if same (cell_of os (Included f r k)) c then Some (status_in x) else o) i
  unfixed (Name f r k) x e c xs ys h i =
      ap (λ o. if same (cell_of os (Name f r k)) c then Some (status_in x) else o) i
  unfixed (Deployments f) x e c xs ys h i =
      ap (λ o. if same (cell_of os (Deployments f)) c then Some (status_in x) else o) i

  pub fixed_same : (ls : List Line) (es : List Entry) (c : Cell) → is_fixed c ≡ true
      → status_of (line_rows os ls es) c ≡ status_of (rows_of os ls) c
  fixed_same [] es c h = refl
  fixed_same (l ∷ ls) [] c h =
      unfixed l.spot l.state entry.Missing c (line_rows os ls []) (rows_of os ls) h (fixed_same ls [] c h)
  fixed_same (l ∷ ls) (e ∷ es) c h =
      unfixed l.spot l.state e c (line_rows os ls es) (rows_of os ls) h (fixed_same ls es c h)

-- ---- states

pub states_apart : (ss : List StateAt) (c : Cell) → is_state c ≡ false → status_of (map state_row ss) c ≡ None
states_apart [] c h = refl
states_apart (s ∷ ss) c h =
    found_later (state_row s) (map state_row ss) c (apart_back is_state (state s.key) c refl h) ∙ states_apart ss c h

pub past_states : (ss : List StateAt) (ys : List Row) (c : Cell) → is_state c ≡ false
    → status_of (map state_row ss ++ ys) c ≡ status_of ys c
past_states ss ys c h = joined_none (map state_row ss) ys c (states_apart ss c h)

-- ---- outputs and their conditions

module _ (os : List Opened) (p : Position) (x : List ℕ) where
  given_here : (s : Spot) (y : State) (e : Entry) → cell_of os s ≡ offered p x
      → rows_by os s y e ≡ given_rows (offered p x) (output p x) e
  given_here (Parameter f n) y e h = absurd (cc)
  given_here (Variable f n) y e h = absurd (cc)
  given_here (Offered f n) y e h =
      let at : (opened_at os f).position ≡ p = cc in
      let named : name_at (output_names (opened_at os f).template) n ≡ x = cc in
      λ i. given_rows (offered (at i) (named i)) (output (at i) (named i)) e
  given_here (Output f n) y e h = absurd (cc)
  given_here (Count f r) y e h = absurd (cc)
  given_here (Included f r i) y e h = absurd (cc)
  given_here (Name f r i) y e h = absurd (cc)
  given_here (Deployments f) y e h = absurd (cc)

  module _ (ls : List Line) (es : List Entry) (j : ℕ) (a : AreDistinct (rows_of os ls)) (h : j < length ls)
      (is : cell_of os (line_at ls j).spot ≡ offered p x) where
    first_here : IsFirstLine os ls j (offered p x)
    first_here = subst (λ (c : Cell). IsFirstLine os ls j c) is (is_first_line os ls j a h)

    pub condition_found : status_of (line_rows os ls es) (offered p x) ≡ Some (condition_status (entry_at es j))
    condition_found =
        let more = reach_plain os ls es j (offered p x) refl h first_here in
        more.1
        ∙ ap (λ (rs : List Row). status_of (rs ++ more.0) (offered p x))
        (given_here (line_at ls j).spot (line_at ls j).state (entry_at es j) is)
        ∙ found_first (record { cell = offered p x; status = condition_status (entry_at es j) })
        (record { cell = output p x; status = output_status (entry_at es j) } ∷ more.0) (offered p x) refl

    pub output_found : status_of (line_rows os ls es) (output p x) ≡ Some (output_status (entry_at es j))
    output_found =
        let more = reach_output os ls es j p x h first_here in
        more.1
        ∙ ap (λ (rs : List Row). status_of (rs ++ more.0) (output p x))
        (given_here (line_at ls j).spot (line_at ls j).state (entry_at es j) is)
        ∙ (found_later (record { cell = offered p x; status = condition_status (entry_at es j) })
        (record { cell = output p x; status = output_status (entry_at es j) } ∷ more.0) (output p x) refl
        ∙ found_first (record { cell = output p x; status = output_status (entry_at es j) }) more.0 (output p x) refl)
