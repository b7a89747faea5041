-- The place of the expressions of a scope, by the name of the nested deployment that opened it.
use Rattle.std.proofs.Common.{◌≡◌, ◌⊎◌, inl, inr, ℕ, ◌<◌, true, ◌∷◌, length, Option}
use Rattle.std.proofs.Common.{Some, None}
use Rattle.std.proofs.Common.{refl, sym, ap, subst, ◌∙◌, arith}
use Rattle.std.specs.Prelude.{option_map, option_and_then, slice_get}
use Rattle.foundation.proofs.Comparisons.{lt_of_true}
use Rattle.arm_value.specs.Json.{Json}
use Rattle.template_tree.specs.Tree.{TemplateTree}
use Rattle.deploy_cells.specs.Cells.{Step, Position, Cell, parent, admits, count, included, name, deployments, copies}
use Rattle.plan_sight.specs.Resources.{Nested, nested_at}
use Rattle.plan_sight.specs.Scopes.{template_at}
use Rattle.plan_sight.specs.Children.{Has, roots}
use Rattle.plan_sight.proofs.ChildLemmas.{root_is, child_is}
use Rattle.plan_table.specs.Rows as rows
use Rattle.plan_table.specs.Rows.{Status, status_of, table, known_by}
use Rattle.plan_table.specs.Sound.{IsOpenedBy}
use Rattle.plan_table.specs.declared.table.Table.{Table}
use Rattle.plan_table.specs.declared.line.Spot.TheVariants.{Deployments}
use Rattle.plan_table.specs.Opened.{IsKept, IsAround}
use Rattle.plan_table.specs.Lines.{IsNumber, IsAt, cell_of, status_in}
use Rattle.plan_table.specs.Whole.{whole_of, scopes_of, rows_in}
use Rattle.plan_table.specs.Found.{scope_at, IsLineOf, Counts, state_at}
use Rattle.plan_sight.specs.Ready.{IsReady}
use Rattle.plan_sight.proofs.LookLemmas.{cell_at, status_at}
use Rattle.plan_nested.proofs.SeekLemmas.{copy_there, listed_of_nested}

-- a cell that is listed is there by the value of its parent
module _ (t : Table) (ready : IsReady t) (c e : Cell) (s : Status) (listed : status_of (rows_in t) c ≡ Some s)
    (above : parent c ≡ Some e) where
  pub record IsAdmitted : Type 0 where
    pub value : Json
    pub has : status_of (rows_in t) e ≡ Some (rows.Value value)
    pub admitted : admits c (Some value) ≡ true

  by_way : Has c (roots (whole_of t)) ⊎ IsOpenedBy (whole_of t) (status_of (rows_in t)) c → IsAdmitted
  by_way (inl h) = let no : None ≡ Some e = sym (root_is (whole_of t) c h).0 ∙ above in absurd (cc)
  by_way (inr h) =
      let i = child_is (whole_of t) h.0 h.1.0 c h.1.1.1 in
      let same : Some h.0 ≡ Some e = sym i.has_parent ∙ above in
      let is : h.0 ≡ e = cc in record {
        value = h.1.0;
        has = subst (λ d. status_of (rows_in t) d ≡ Some (rows.Value h.1.0)) is h.1.1.0;
        admitted = i.admitted;
      }

  pub admitted_by : IsAdmitted
  admitted_by = by_way (ready.sound.good.is_there c s listed)

-- a scope inside another
module _ (t : Table) (g : ℕ) (ready : IsReady t) (there : g < length (scopes_of t)) (s : Step) (p : Position)
    (at : (scope_at t g).position ≡ s ∷ p) where
  kept : IsKept (whole_of t) (scopes_of t) g (scope_at t g)
  kept = ready.laid.kept g there

  around_is : IsAround (scopes_of t) g (scope_at t g) (s ∷ p)
  around_is = subst (IsAround (scopes_of t) g (scope_at t g)) at kept.around

  abbrev a : ℕ
  a = (scope_at t g).around

  pub around_there : a < length (scopes_of t)
  around_there = let less = around_is.0 in omega (arith, less, there)

  pub position_around : (scope_at t a).position ≡ p
  position_around = around_is.1

  listing_line : IsAt t.lines.items (Deployments g)
  listing_line = ready.laid.cells g there (Deployments g) refl tt tt

  listing_is : cell_at t listing_line.line ≡ deployments (s ∷ p)
  listing_is = ap (cell_of (scopes_of t)) listing_line.is ∙ ap deployments at

  listing_listed : status_of (rows_in t) (deployments (s ∷ p)) ≡ Some (status_in (state_at t listing_line.line))
  listing_listed =
      ap (status_of (rows_in t)) (sym listing_is) ∙ status_at t listing_line.line ready listing_line.listed

  -- its instance is included, and so it is one of those that are counted
  included_by : IsAdmitted t ready (deployments (s ∷ p)) (included p s) (status_in (state_at t listing_line.line))
      listing_listed refl
  included_by =
      admitted_by t ready (deployments (s ∷ p)) (included p s) (status_in (state_at t listing_line.line))
      listing_listed refl

  counted_by : IsAdmitted t ready (included p s) (count p s.resource) (rows.Value included_by.value)
      included_by.has refl
  counted_by =
      admitted_by t ready (included p s) (count p s.resource) (rows.Value included_by.value) included_by.has refl

  nested_there : (o : Option TemplateTree) → template_at (whole_of t).template p ≡ o
      → option_map (λ (n : Nested). n.template) (option_and_then (λ u. nested_at u s.resource) o)
      ≡ Some (scope_at t g).template
      → (u : TemplateTree) → o ≡ Some u → (n : Nested) × (nested_at u s.resource ≡ Some n)
  nested_there o e h u f = by_nested (nested_at u s.resource) refl
      (ap (λ x. option_map (λ (n : Nested). n.template) (option_and_then (λ v. nested_at v s.resource) x)) (sym f) ∙ h)
    where
      by_nested : (x : Option Nested) → nested_at u s.resource ≡ x
          → option_map (λ (n : Nested). n.template) (nested_at u s.resource) ≡ Some (scope_at t g).template
          → (n : Nested) × (nested_at u s.resource ≡ Some n)
      by_nested (Some n) e h = (n, e)
      by_nested None e h =
          let no : None ≡ Some (scope_at t g).template =
          ap (option_map (λ (n : Nested). n.template)) (sym e) ∙ h in absurd (cc)

  template_inside : template_at (whole_of t).template (s ∷ p) ≡ Some (scope_at t g).template
  template_inside = ap (template_at (whole_of t).template) (sym at) ∙ kept.template

  kept_around : IsKept (whole_of t) (scopes_of t) a (scope_at t a)
  kept_around = ready.laid.kept a around_there

  template_around : template_at (whole_of t).template p ≡ Some (scope_at t a).template
  template_around = ap (template_at (whole_of t).template) (sym position_around) ∙ kept_around.template

  number_around : IsNumber (scope_at t a) s.resource
  unfolding template_at
  number_around =
      let n = nested_there (template_at (whole_of t).template p) refl template_inside (scope_at t a).template
      template_around in
      let x = listed_of_nested (scope_at t a).template s.resource n.0 n.1 in record {
        listed = x.0;
        has = ap (λ xs. slice_get xs s.resource) kept_around.resources ∙ x.1.0;
        is_put = x.1.1;
      }

  -- so its name is listed in the scope around
  pub name_there : ((j : ℕ) → IsLineOf t a (count (scope_at t a).position s.resource) j
      → Counts s.copy (state_at t j) → ⊥) → ⊥
  name_there never =
      copy_there t a ready around_there s.resource s.copy number_around counted_by.value
      (ap (λ q. table (status_of (rows_in t)) (count q s.resource)) position_around ∙ ap known_by counted_by.has)
      (lt_of_true s.copy (copies (Some counted_by.value)) counted_by.admitted) never
