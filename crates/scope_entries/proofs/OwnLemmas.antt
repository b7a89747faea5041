-- The lines of the parameters and variables of a scope.
use Rattle.std.proofs.Common.{◌≡◌, ◌⊎◌, inl, inr, ℕ, zero, suc, ◌<◌, Bool, true, false, true≢false, List, []}
use Rattle.std.proofs.Common.{◌∷◌, map, length, refl, sym, ap, subst, ◌∙◌, arith}
use Rattle.std.proofs.lemmas.Bool.{eq-eqb, cases_order}
use Rattle.foundation.proofs.Comparisons.{eq_of_true}
use Rattle.deploy_cells.specs.Cells.{Cell, parameter, variable}
use Rattle.deploy_cells.proofs.SameLemmas.{cell_same_as}
use Rattle.plan_cells.specs.Children.{Has, own_cells, parameter_names, variable_names}
use Rattle.plan_cells.specs.Meaning.{is_own}
use Rattle.plan_cells.specs.Reads.{of_template}
use Rattle.plan_cells.specs.Scopes.{template_at}
use Rattle.plan_cells.proofs.ListLemmas.{has_joined, has_left, has_right, has_map, has_mapped}
use Rattle.plan_table.specs.declared.table.Table.{Table}
use Rattle.plan_table.specs.declared.line.Spot.{Spot}
use Rattle.plan_table.specs.declared.line.Spot.TheVariants.{Parameter, Variable, Offered, Output, Count, Included}
use Rattle.plan_table.specs.declared.line.Spot.TheVariants.{Name, Deployments}
use Rattle.plan_table.specs.Opened.{Opened, IsKept, opened_at}
use Rattle.plan_table.specs.Lines.{name_at, cell_of, line_at, IsPlaced, IsAt}
use Rattle.plan_table.specs.Whole.{whole_of, scopes_of}
use Rattle.plan_table.specs.Found.{scope_at}
use Rattle.plan_sight.specs.Ready.{IsReady}
use Rattle.plan_sight.proofs.LookLemmas.{scopes_there}
use Rattle.point_rows.specs.Rows.{IsEntrySpot}
use Rattle.point_rows.proofs.RowsNowLemmas.{is_first_line}
use Rattle.scope_entries.specs.Entries.{line_cell, own_of, is_own_spot, IsOwnLine}

-- ---- the spot of a line

pub own_entry : (f : ℕ) (s : Spot) → is_own_spot f s ≡ true → IsEntrySpot s
own_entry f (Parameter g n) e = tt
own_entry f (Variable g n) e = tt
own_entry f (Offered g n) e = absurd (cc)
own_entry f (Output g n) e = absurd (cc)
own_entry f (Count g r) e = absurd (cc)
own_entry f (Included g r i) e = absurd (cc)
own_entry f (Name g r i) e = absurd (cc)
own_entry f (Deployments g) e = absurd (cc)

-- ---- names by their numbers

pub name_has : (xs : List (List ℕ)) (n : ℕ) → n < length xs → Has (name_at xs n) xs
name_has [] n h = absurd (omega (arith, h))
name_has (x ∷ xs) zero h = inl refl
name_has (x ∷ xs) (suc n) h = inr (name_has xs n (omega (arith, h)))

has_name : (xs : List (List ℕ)) (x : List ℕ) → Has x xs → (n : ℕ) × ((n < length xs) × (name_at xs n ≡ x))
has_name [] x h = absurd h
has_name (y ∷ ys) x (inl e) = (zero, (omega arith, e))
has_name (y ∷ ys) x (inr h) =
    let r = has_name ys x h in let l = r.1.0 in (suc r.0, (omega (arith, l), r.1.1))

-- ---- the cells of a scope

module _ (t : Table) (f : ℕ) (ready : IsReady t) (there : f < length t.frames.items) where
  abbrev o : Opened
  o = scope_at t f

  kept : IsKept (whole_of t) (scopes_of t) f o
  kept = ready.laid.kept f (scopes_there t f there)

  pub own_is : own_of t f ≡ own_cells o.is_own o.position o.template
  own_is =
      ap (λ (b : Bool). of_template (own_cells b o.position) (template_at (whole_of t).template o.position))
      (sym kept.own)
      ∙ ap (of_template (own_cells o.is_own o.position)) kept.template

  pub parameter_own : (x : List ℕ) → o.is_own ≡ true → Has x (parameter_names o.template)
      → Has (parameter o.position x) (own_of t f)
  parameter_own x own h =
      subst (Has (parameter o.position x)) (sym (own_is ∙ ap (λ (b : Bool). own_cells b o.position o.template) own))
      (has_left (parameter o.position x) (map (parameter o.position) (parameter_names o.template))
      (map (variable o.position) (variable_names o.template))
      (has_map (parameter o.position) x (parameter_names o.template) h))

  pub variable_own : (x : List ℕ) → o.is_own ≡ true → Has x (variable_names o.template)
      → Has (variable o.position x) (own_of t f)
  variable_own x own h =
      subst (Has (variable o.position x)) (sym (own_is ∙ ap (λ (b : Bool). own_cells b o.position o.template) own))
      (has_right (variable o.position x) (map (parameter o.position) (parameter_names o.template))
      (map (variable o.position) (variable_names o.template))
      (has_map (variable o.position) x (variable_names o.template) h))

  -- which cells a scope has of its own
  abbrev pub OwnCell : Cell → Type 0
  OwnCell c = (o.is_own ≡ true) × (
      ((x : List ℕ) × (Has x (parameter_names o.template) × (parameter o.position x ≡ c)))
      ⊎ ((x : List ℕ) × (Has x (variable_names o.template) × (variable o.position x ≡ c)))
      )

  by_own : (b : Bool) → o.is_own ≡ b → (c : Cell) → Has c (own_cells b o.position o.template) → OwnCell c
  by_own false e c h = absurd h
  by_own true e c h =
      let j = has_joined c (map (parameter o.position) (parameter_names o.template))
      (map (variable o.position) (variable_names o.template)) h in
      elim j [
        | inl q ↦ (e, inl (has_mapped (parameter o.position) c (parameter_names o.template) q))
        | inr q ↦ (e, inr (has_mapped (variable o.position) c (variable_names o.template) q))
      ]

  pub own_cell : (c : Cell) → Has c (own_of t f) → OwnCell c
  own_cell c h = by_own o.is_own refl c (subst (Has c) own_is h)

  -- the cell of a line of the scope
  of_spot : (s : Spot) → IsPlaced (scopes_of t) s → is_own_spot f s ≡ true → Has (cell_of (scopes_of t) s) (own_of t f)
  of_spot (Parameter g n) p q =
      let same : g ≡ f = eq_of_true g f q in
      let d = subst (λ (k : ℕ). ((opened_at (scopes_of t) k).is_own ≡ true)
      × (n < length (parameter_names (opened_at (scopes_of t) k).template))) same p.declared in
      subst (λ (k : ℕ). Has (parameter (opened_at (scopes_of t) k).position
      (name_at (parameter_names (opened_at (scopes_of t) k).template) n)) (own_of t f)) (sym same)
      (parameter_own (name_at (parameter_names o.template) n) d.0 (name_has (parameter_names o.template) n d.1))
  of_spot (Variable g n) p q =
      let same : g ≡ f = eq_of_true g f q in
      let d = subst (λ (k : ℕ). ((opened_at (scopes_of t) k).is_own ≡ true)
      × (n < length (variable_names (opened_at (scopes_of t) k).template))) same p.declared in
      subst (λ (k : ℕ). Has (variable (opened_at (scopes_of t) k).position
      (name_at (variable_names (opened_at (scopes_of t) k).template) n)) (own_of t f)) (sym same)
      (variable_own (name_at (variable_names o.template) n) d.0 (name_has (variable_names o.template) n d.1))
  of_spot (Offered g n) p q = absurd (cc)
  of_spot (Output g n) p q = absurd (cc)
  of_spot (Count g r) p q = absurd (cc)
  of_spot (Included g r i) p q = absurd (cc)
  of_spot (Name g r i) p q = absurd (cc)
  of_spot (Deployments g) p q = absurd (cc)

  pub own_line : (j : ℕ) → IsOwnLine t f j → Has (line_cell t j) (own_of t f)
  own_line j l = of_spot (line_at t.lines.items j).spot (ready.laid.placed j l.listed) l.is_own

  -- ---- lines that are none of the scope

  not_before : (i j : ℕ) → i < j → j < length t.lines.items → line_cell t i ≡ line_cell t j → ⊥
  not_before i j g h e =
      true≢false (sym (cell_same_as (line_cell t i) (line_cell t j) e)
      ∙ is_first_line (scopes_of t) t.lines.items j ready.sound.distinct h i g)

  -- a cell has one line
  pub one_line : (i j : ℕ) → i < length t.lines.items → j < length t.lines.items → line_cell t i ≡ line_cell t j
      → i ≡ j
  one_line i j g h e = elim (cases_order i j) [
    | inl q ↦ q
    | inr (inl q) ↦ absurd (not_before i j q h e)
    | inr (inr q) ↦ absurd (not_before j i q g (sym e))
  ]

  module _ (j : ℕ) (h : j < length t.lines.items) (other : is_own_spot f (line_at t.lines.items j).spot ≡ false) where
    -- the line of a spot of the scope has another cell
    apart : (s : Spot) → is_own_spot f s ≡ true → IsAt t.lines.items s → cell_of (scopes_of t) s ≡ line_cell t j → ⊥
    apart s own i e =
        let same : i.line ≡ j = one_line i.line j i.listed h (ap (cell_of (scopes_of t)) i.is ∙ e) in
        let spot : (line_at t.lines.items j).spot ≡ s =
        ap (λ (k : ℕ). (line_at t.lines.items k).spot) (sym same) ∙ i.is in
        true≢false (sym own ∙ ap (is_own_spot f) (sym spot) ∙ other)

    pub not_own : Has (line_cell t j) (own_of t f) → ⊥
    not_own c = by_cell (own_cell (line_cell t j) c)
      where
        by_cell : OwnCell (line_cell t j) → ⊥
        by_cell (own, inl q) =
            let n = has_name (parameter_names o.template) q.0 q.1.0 in
            apart (Parameter f n.0) (eq-eqb f f refl)
            (ready.laid.cells f (scopes_there t f there) (Parameter f n.0) refl tt (own, n.1.0))
            (ap (parameter o.position) n.1.1 ∙ q.1.1)
        by_cell (own, inr q) =
            let n = has_name (variable_names o.template) q.0 q.1.0 in
            apart (Variable f n.0) (eq-eqb f f refl)
            (ready.laid.cells f (scopes_there t f there) (Variable f n.0) refl tt (own, n.1.0))
            (ap (variable o.position) n.1.1 ∙ q.1.1)
