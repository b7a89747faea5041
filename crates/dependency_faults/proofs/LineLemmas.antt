-- The lines of conditions and of names are of instances that are there, and lists by lines.
use Rattle.std.proofs.Common.{◌≡◌, ◌⊎◌, inl, inr, ℕ, zero, suc, ◌+◌, ◌<◌, ◌≤◌, List, [], ◌∷◌, ◌++◌, map, length}
use Rattle.std.proofs.Common.{drop, Option, Some, None, refl, sym, ap, subst, ◌∙◌, arith, append_assoc}
use Rattle.std.proofs.lemmas.List.{length-map, append-nil}
use Rattle.std.specs.Prelude.{nat_lt, slice_get}
use Rattle.foundation.proofs.Lists.{nothing_left}
use Rattle.foundation.proofs.Comparisons.{lt_of_true}
use Rattle.foundation.proofs.Options.{same_some}
use Rattle.arm_value.specs.Json.{Json}
use Rattle.reading.specs.Knowledge.{known_value}
use Rattle.deploy_cells.specs.Cells.{Step, step, Position, Cell, count, included, name, parent, admits, copies}
use Rattle.plan_cells.specs.Known as knowing
use Rattle.plan_cells.specs.Meaning.{Deployment}
use Rattle.plan_cells.specs.Children.{Has, roots}
use Rattle.plan_cells.proofs.ChildLemmas.{root_is, child_is}
use Rattle.plan_filling.specs.Rows.{Status, Value, Row, row_at, status_of}
use Rattle.plan_filling.specs.Sound.{IsOpenedBy}
use Rattle.plan_filling.specs.Final.{or_unlisted}
use Rattle.plan_filling.proofs.RowLemmas.{status_found}
use Rattle.plan_table.specs.declared.line.Line.{Line}
use Rattle.plan_table.specs.declared.line.Spot.{Spot}
use Rattle.plan_table.specs.declared.line.Spot.TheVariants.{Included, Name}
use Rattle.plan_table.specs.declared.table.Table.{Table}
use Rattle.plan_table.specs.Opened.{opened_of}
use Rattle.plan_table.specs.Lines.{cell_of, line_at, IsPlaced}
use Rattle.plan_table.specs.Whole.{whole_of, scopes_of, rows_in}
use Rattle.plan_table.specs.Found.{scope_at}
use Rattle.plan_table.proofs.LaidLemmas.{row_here, length_rows}
use Rattle.plan_tasks.specs.InOrder.{copies_in}
use Rattle.plan_tasks.specs.Start.{start_of, IsStartTable, IsInstance}

-- ---- instances

module _ (t : Table) (start : IsStartTable t) where
  abbrev d : Deployment
  d = whole_of t

  abbrev q : knowing.Table
  q = start_of t

  abbrev σ : Cell → Option Status
  σ = status_of (rows_in t)

  rows_long : length (rows_in t) ≡ length t.lines.items
  rows_long = length_rows (scopes_of t) t.lines.items

  -- the count of an instance that is listed has it
  of_count : (c : Cell) (p : Position) (s : Step) → parent c ≡ Some (count p s.resource)
      → ((o : Option Json) → admits c o ≡ nat_lt s.copy (copies o)) → Has c (roots d) ⊎ IsOpenedBy d σ c
      → s.copy < copies_in q p s.resource
  of_count c p s e g (inl r) =
      let no : Some (count p s.resource) ≡ None = sym e ∙ (root_is d c r).0 in absurd (cc)
  of_count c p s e g (inr o) =
      let i = child_is d o.0 o.1.0 c o.1.1.1 in
      let same : count p s.resource ≡ o.0 = same_some (sym e ∙ i.has_parent) in
      let has : σ (count p s.resource) ≡ Some (Value o.1.0) = ap σ same ∙ o.1.1.0 in
      let known : q (count p s.resource) ≡ or_unlisted σ (count p s.resource) (Some (Value o.1.0)) =
      ap (or_unlisted σ (count p s.resource)) has in
      subst (λ (n : ℕ). s.copy < n) (ap (λ k. copies (known_value k)) (sym known))
      (lt_of_true s.copy (copies (Some o.1.0)) (sym (g (Some o.1.0)) ∙ i.admitted))

  listed_at : (at : ℕ) (c : Cell) → at < length t.lines.items
      → cell_of (scopes_of t) (line_at t.lines.items at).spot ≡ c
      → Has c (roots d) ⊎ IsOpenedBy d σ c
  listed_at at c h e =
      let m = rows_long in
      let row : (row_at (rows_in t) at).cell ≡ c =
      ap (λ (x : Row). x.cell) (row_here (scopes_of t) t.lines.items at h) ∙ e in
      let listed : σ c ≡ Some (row_at (rows_in t) at).status =
      ap σ (sym row) ∙ status_found (rows_in t) at start.filled.sound.distinct (omega (arith, m, h)) in
      start.filled.sound.good.is_there c (row_at (rows_in t) at).status listed

  pub condition_instance : (at f r i : ℕ) → at < length t.lines.items
      → (line_at t.lines.items at).spot ≡ Included f r i → IsInstance t f r i
  condition_instance at f r i h e =
      let placed = subst (λ (x : Spot). IsPlaced (scopes_of t) x) e (start.laid.placed at h) in
      let n = length-map t.frames.items opened_of in
      let there = placed.there in
      record {
        there = omega (arith, n, there);
        number = placed.declared.0;
        within =
            of_count (included (scope_at t f).position (step r i)) (scope_at t f).position (step r i) refl (λ o. refl)
            (listed_at at (included (scope_at t f).position (step r i)) h (ap (cell_of (scopes_of t)) e));
      }

  pub name_instance : (at f r i : ℕ) → at < length t.lines.items
      → (line_at t.lines.items at).spot ≡ Name f r i → IsInstance t f r i
  name_instance at f r i h e =
      let placed = subst (λ (x : Spot). IsPlaced (scopes_of t) x) e (start.laid.placed at h) in
      let n = length-map t.frames.items opened_of in
      let there = placed.there in
      record {
        there = omega (arith, n, there);
        number = placed.declared.0;
        within =
            of_count (name (scope_at t f).position (step r i)) (scope_at t f).position (step r i) refl (λ o. refl)
            (listed_at at (name (scope_at t f).position (step r i)) h (ap (cell_of (scopes_of t)) e));
      }

-- ---- lists by lines

-- with those of the lines from a number on, the list is that of all
abbrev pub LinesLeft : {B : Type 0} → (Line → B) → List Line → List B → ℕ → Type 0
LinesLeft f ls done i = done ++ map f (drop i ls) ≡ map f ls

line_drop : (ls : List Line) (i : ℕ) → i < length ls → drop i ls ≡ line_at ls i ∷ drop (suc i) ls
line_drop [] i h = absurd (omega (arith, h))
line_drop (l ∷ ls) zero h = refl
line_drop (l ∷ ls) (suc i) h = line_drop ls i (omega (arith, h))

pub lines_more : {B : Type 0} (f : Line → B) (ls : List Line) (i : ℕ) (done new : List B) (y : B) → i < length ls
    → new ≡ done ++ y ∷ [] → y ≡ f (line_at ls i) → LinesLeft f ls done i → LinesLeft f ls new (i + 1)
lines_more f ls i done new y h e g c =
    ap (λ xs. xs ++ map f (drop (i + 1) ls)) e
    ∙ append_assoc done (y ∷ []) (map f (drop (i + 1) ls))
    ∙ ap (λ z. done ++ (z ∷ map f (drop (i + 1) ls))) g
    ∙ ap (λ (j : ℕ). done ++ (f (line_at ls i) ∷ map f (drop j ls))) (let z : i + 1 ≡ suc i = omega arith in z)
    ∙ ap (λ xs. done ++ map f xs) (sym (line_drop ls i h)) ∙ c

pub lines_end : {B : Type 0} (f : Line → B) (ls : List Line) (i : ℕ) (done : List B) → length ls ≤ i
    → LinesLeft f ls done i → done ≡ map f ls
lines_end f ls i done h c =
    sym (append-nil done) ∙ ap (λ xs. done ++ map f xs) (sym (nothing_left ls i h)) ∙ c

-- what a list by lines has at a number
pub record IsByLine {B : Type 0} (f : Line → B) (ls : List Line) (j : ℕ) (y : B) : Type 0 where
  pub listed : j < length ls
  pub is : f (line_at ls j) ≡ y

pub by_line : {B : Type 0} (f : Line → B) (ls : List Line) (j : ℕ) (y : B) → slice_get (map f ls) j ≡ Some y
    → IsByLine f ls j y
by_line f [] j y e = let no : None ≡ Some y = e in absurd (cc)
by_line f (l ∷ ls) zero y e = record { listed = omega arith; is = same_some e }
by_line f (l ∷ ls) (suc j) y e =
    let k = by_line f ls j y e in record { listed = (let h = k.listed in omega (arith, h)); is = k.is }

pub line_is : {B : Type 0} (f : Line → B) (ls : List Line) (j : ℕ) → j < length ls
    → slice_get (map f ls) j ≡ Some (f (line_at ls j))
line_is f [] j h = absurd (omega (arith, h))
line_is f (l ∷ ls) zero h = refl
line_is f (l ∷ ls) (suc j) h = line_is f ls j (omega (arith, h))
