-- The lines of conditions are of instances that are there, and the tags of lines are those of rows.
use Rattle.std.proofs.Common.{◌≡◌, ◌⊎◌, inl, inr, ℕ, zero, suc, ◌+◌, ◌<◌, ◌≤◌, List, [], ◌∷◌, ◌++◌, map, length}
use Rattle.std.proofs.Common.{drop, Option, Some, None, refl, sym, ap, subst, ◌∙◌, arith, append_assoc}
use Rattle.std.proofs.lemmas.List.{length-map, map-append}
use Rattle.std.specs.declared.vec.Vec.{Vec}
use Rattle.std.specs.declared.alloc.Global.{Global}
use Rattle.std.proofs.lemmas.Option.{same_Some}
use Rattle.foundation.proofs.Lists.{nothing_left}
use Rattle.foundation.proofs.Comparisons.{lt_of_true}
use Rattle.reading.specs.Knowledge.{known_value}
use Rattle.deploy_cells.specs.Cells.{Step, step, Position, Cell, count, included, copies}
use Rattle.plan_cells.specs.Known as knowing
use Rattle.plan_cells.specs.Meaning.{Deployment}
use Rattle.plan_cells.specs.Children.{Has, roots}
use Rattle.plan_cells.proofs.ChildLemmas.{root_is, child_is}
use Rattle.plan_filling.specs.Rows.{Status, Value, Row, row_at, status_of}
use Rattle.plan_filling.specs.Sound.{IsOpenedBy}
use Rattle.plan_filling.specs.Final.{or_unlisted}
use Rattle.plan_filling.proofs.RowLemmas.{status_found}
use Rattle.tag_needs.specs.Tags.{Tag, tags_of, tags_in}
use Rattle.plan_table.specs.declared.line.Spot.{Spot}
use Rattle.plan_table.specs.declared.line.Spot.TheVariants.{Included}
use Rattle.plan_table.specs.declared.table.Table.{Table}
use Rattle.plan_table.specs.Opened.{opened_of}
use Rattle.plan_table.specs.Lines.{cell_of, line_at, IsPlaced}
use Rattle.plan_table.specs.Whole.{whole_of, scopes_of, rows_in}
use Rattle.plan_table.specs.Found.{scope_at}
use Rattle.plan_table.proofs.LaidLemmas.{row_here, length_rows}
use Rattle.plan_tasks.specs.InOrder.{copies_in}
use Rattle.plan_tasks.specs.Start.{start_of, IsStartTable, IsInstance}
use Rattle.plan_puts.specs.PutTags.{cell_tags, row_tags}

module _ (t : Table) (start : IsStartTable t) where
  abbrev d : Deployment
  d = whole_of t

  abbrev q : knowing.Table
  q = start_of t

  abbrev σ : Cell → Option Status
  σ = status_of (rows_in t)

  rows_long : length (rows_in t) ≡ length t.lines.items
  rows_long = length_rows (scopes_of t) t.lines.items

  -- the count of an instance that is listed has it
  of_count : (p : Position) (s : Step) → Has (included p s) (roots d) ⊎ IsOpenedBy d σ (included p s)
      → s.copy < copies_in q p s.resource
  of_count p s (inl r) = let no : Some (count p s.resource) ≡ None = (root_is d (included p s) r).0 in absurd (cc)
  of_count p s (inr o) =
      let i = child_is d o.0 o.1.0 (included p s) o.1.1.1 in
      let same : count p s.resource ≡ o.0 = same_Some (count p s.resource) o.0 i.has_parent in
      let has : σ (count p s.resource) ≡ Some (Value o.1.0) = ap σ same ∙ o.1.1.0 in
      let known : q (count p s.resource) ≡ or_unlisted σ (count p s.resource) (Some (Value o.1.0)) =
      ap (or_unlisted σ (count p s.resource)) has in
      subst (λ (n : ℕ). s.copy < n) (ap (λ k. copies (known_value k)) (sym known))
      (lt_of_true s.copy (copies (Some o.1.0)) i.admitted)

  pub instance_there : (at f r i : ℕ) → at < length t.lines.items → (line_at t.lines.items at).spot ≡ Included f r i
      → IsInstance t f r i
  instance_there at f r i h e =
      let placed = subst (λ (x : Spot). IsPlaced (scopes_of t) x) e (start.laid.placed at h) in
      let n = length-map t.frames.items opened_of in
      let m = rows_long in
      let there = placed.there in
      let row : (row_at (rows_in t) at).cell ≡ included (scope_at t f).position (step r i) =
      ap (λ (x : Row). x.cell) (row_here (scopes_of t) t.lines.items at h) ∙ ap (cell_of (scopes_of t)) e in
      let listed : σ (included (scope_at t f).position (step r i)) ≡ Some (row_at (rows_in t) at).status =
      ap σ (sym row) ∙ status_found (rows_in t) at start.filled.sound.distinct (omega (arith, m, h)) in
      record {
        there = omega (arith, n, there);
        number = placed.declared.0;
        within = of_count (scope_at t f).position (step r i)
            (start.filled.sound.good.is_there (included (scope_at t f).position (step r i))
            (row_at (rows_in t) at).status listed);
      }

-- ---- the tags of lines

-- with those of the rows from a number on, the list is that of all
abbrev pub TagsLeft : Table → List (Vec (Vec ℕ Global) Global) → ℕ → Type 0
TagsLeft t all i = tags_in all ++ map (row_tags (whole_of t) (start_of t)) (drop i (rows_in t))
    ≡ map (row_tags (whole_of t) (start_of t)) (rows_in t)

module _ (t : Table) where
  abbrev tags : Row → List Tag
  tags = row_tags (whole_of t) (start_of t)

  long : length (rows_in t) ≡ length t.lines.items
  long = length_rows (scopes_of t) t.lines.items

  row_drop : (rs : List Row) (i : ℕ) → i < length rs → drop i rs ≡ row_at rs i ∷ drop (suc i) rs
  row_drop [] i h = absurd (omega (arith, h))
  row_drop (r ∷ rs) zero h = refl
  row_drop (r ∷ rs) (suc i) h = row_drop rs i (omega (arith, h))

  pub tags_more : (i : ℕ) (all new : List (Vec (Vec ℕ Global) Global)) (v : Vec (Vec ℕ Global) Global)
      → i < length t.lines.items → new ≡ all ++ v ∷ []
      → tags_of v ≡ cell_tags (whole_of t) (start_of t) (cell_of (scopes_of t) (line_at t.lines.items i).spot)
      → TagsLeft t all i
      → TagsLeft t new (i + 1)
  tags_more i all new v h e g c =
      let m = long in
      let same : tags_of v ≡ tags (row_at (rows_in t) i) =
      g ∙ ap tags (sym (row_here (scopes_of t) t.lines.items i h)) in
      ap (λ vs. tags_in vs ++ map tags (drop (i + 1) (rows_in t))) e
      ∙ ap (λ xs. xs ++ map tags (drop (i + 1) (rows_in t))) (map-append tags_of all (v ∷ []))
      ∙ append_assoc (tags_in all) (tags_of v ∷ []) (map tags (drop (i + 1) (rows_in t)))
      ∙ ap (λ ts. tags_in all ++ (ts ∷ map tags (drop (i + 1) (rows_in t)))) same
      ∙ ap (λ (j : ℕ). tags_in all ++ (tags (row_at (rows_in t) i) ∷ map tags (drop j (rows_in t))))
      (let z : i + 1 ≡ suc i = omega arith in z)
      ∙ ap (λ rs. tags_in all ++ map tags rs) (sym (row_drop (rows_in t) i (omega (arith, h, m)))) ∙ c

  nil_right : (xs : List (List Tag)) → xs ++ [] ≡ xs
  nil_right [] = refl
  nil_right (x ∷ xs) = ap (λ ys. x ∷ ys) (nil_right xs)

  pub tags_end : (i : ℕ) (all : List (Vec (Vec ℕ Global) Global)) → length t.lines.items ≤ i → TagsLeft t all i
      → tags_in all ≡ map tags (rows_in t)
  tags_end i all h c =
      let m = long in
      sym (nil_right (tags_in all))
      ∙ ap (λ rs. tags_in all ++ map tags rs) (sym (nothing_left (rows_in t) i (omega (arith, h, m)))) ∙ c
