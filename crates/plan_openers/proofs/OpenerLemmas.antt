-- A scope that is there was opened by an instance of a nested deployment that is included.
use Rattle.std.proofs.Common.{◌≡◌, ◌⊎◌, inl, inr, ℕ, ◌<◌, Bool, true, false, List, [], ◌∷◌, map, length, get_or}
use Rattle.std.proofs.Common.{Option, Some, None}
use Rattle.std.proofs.Common.{refl, sym, ap, subst, ◌∙◌, arith}
use Rattle.std.proofs.lemmas.List.{length-map}
use Rattle.std.specs.Prelude.{slice_get, option_map, option_and_then, if◌then◌else◌}
use Rattle.std.proofs.lemmas.Option.{same_Some}
use Rattle.foundation.proofs.Comparisons.{lt_of_true}
use Rattle.arm_value.specs.Json.{Json}
use Rattle.reading.specs.Knowledge.{known_value}
use Rattle.template_tree.specs.Tree.{TemplateTree}
use Rattle.deploy_cells.specs.Cells.{Step, Position, Cell, parent, admits, count, included, deployments, copies}
use Rattle.plan_cells.specs.Resources.{Listed, Nested, nested_in, nested_at, resource_at, resources_in}
use Rattle.plan_cells.specs.Resources.{unless_existing}
use Rattle.plan_cells.specs.Scopes.{template_at}
use Rattle.plan_cells.specs.Meaning.{Deployment}
use Rattle.plan_cells.specs.Children.{Has, roots}
use Rattle.plan_cells.proofs.ChildLemmas.{child_is, root_is}
use Rattle.plan_table.specs.Rows.{Status, Value, Row, row_at, status_of}
use Rattle.plan_table.specs.Sound.{Good, IsOpenedBy}
use Rattle.plan_table.specs.Final.{or_unlisted}
use Rattle.plan_table.proofs.RowLemmas.{status_found}
use Rattle.plan_table.specs.declared.frame.Frame.{Frame}
use Rattle.plan_table.specs.declared.frame.Instance.{Instance}
use Rattle.plan_table.specs.declared.line.Spot.TheVariants.{Deployments}
use Rattle.plan_table.specs.declared.table.Table.{Table}
use Rattle.plan_table.specs.Opened.{Opened, step_of, opened_of, opened_at, IsKept, IsAround}
use Rattle.plan_table.specs.Lines.{cell_of}
use Rattle.plan_table.specs.Whole.{whole_of, scopes_of, rows_in}
use Rattle.plan_table.specs.Found.{scope_at}
use Rattle.plan_table.proofs.FrameLemmas.{frame_is}
use Rattle.plan_table.proofs.LaidLemmas.{row_here, length_rows}
use Rattle.plan_refusals.specs.InOrder.{copies_in, is_in}
use Rattle.plan_refusals.specs.Start.{start_of, IsStartTable, IsInstance}
use Rattle.plan_openers.specs.Openers.{IsOpener}
use Rattle.arm_value.specs.Kinds.{is_true}

-- ---- by the cells that are listed

-- the cell has a value that opens another
record IsBy (σ : Cell → Option Status) (c e : Cell) : Type 0 where
  value : Json
  has : σ c ≡ Some (Value value)
  admitted : admits e (Some value) ≡ true

-- what has a parent was opened by it
opened_by : (d : Deployment) (σ : Cell → Option Status) (c e : Cell) (s : Status) → Good d σ → parent e ≡ Some c
    → σ e ≡ Some s → IsBy σ c e
opened_by d σ c e s good p h = by_there (good.is_there e s h)
  where
    by_there : Has e (roots d) ⊎ IsOpenedBy d σ e → IsBy σ c e
    by_there (inl r) = let n = (root_is d e r).0 in let f : None ≡ Some c = sym n ∙ p in absurd (cc)
    by_there (inr o) =
        let child = child_is d o.0 o.1.0 e o.1.1.1 in
        let same : o.0 ≡ c = same_Some o.0 c (sym child.has_parent ∙ p) in
        record { value = o.1.0; has = ap σ (sym same) ∙ o.1.1.0; admitted = child.admitted }

-- ---- by the templates

record HasNested (u : TemplateTree) (r : ℕ) (v : TemplateTree) : Type 0 where
  nested : Nested
  is : nested_at u r ≡ Some nested
  template : v ≡ nested.template

nested_by : (u : TemplateTree) (r : ℕ) (v : TemplateTree) (o : Option Nested) → nested_at u r ≡ o
    → option_map (λ (n : Nested). n.template) o ≡ Some v → HasNested u r v
nested_by u r v None e h = let f : None ≡ Some v = h in absurd (cc)
nested_by u r v (Some n) e h =
    let same : n.template ≡ v = same_Some n.template v h in record { nested = n; is = e; template = sym same }

template_above : (t u v : TemplateTree) (s : Step) (p : Position) → template_at t p ≡ Some u
    → template_at t (s ∷ p) ≡ Some v → HasNested u s.resource v
unfolding template_at
template_above t u v s p e h =
    nested_by u s.resource v (nested_at u s.resource) refl
    (ap (λ o. option_map (λ (n : Nested). n.template) (option_and_then (λ w. nested_at w s.resource) o)) (sym e) ∙ h)

record IsNestedAt (xs : List Listed) (r : ℕ) (n : Nested) : Type 0 where
  listed : Listed
  has : slice_get xs r ≡ Some listed
  is_put : listed.declaration.existing ≡ false
  is : nested_in listed.content ≡ Some n

put_by : (xs : List Listed) (r : ℕ) (n : Nested) (x : Listed) (b : Bool) → slice_get xs r ≡ Some x
    → x.declaration.existing ≡ b
    → option_and_then (λ (y : Listed). nested_in y.content) (if b then None else Some x) ≡ Some n → IsNestedAt xs r n
put_by xs r n x true e f h = let g : None ≡ Some n = h in absurd (cc)
put_by xs r n x false e f h = record { listed = x; has = e; is_put = f; is = h }

listed_by : (xs : List Listed) (r : ℕ) (n : Nested) (o : Option Listed) → slice_get xs r ≡ o
    → option_and_then (λ (y : Listed). nested_in y.content) (option_and_then unless_existing o) ≡ Some n
    → IsNestedAt xs r n
listed_by xs r n None e h = let g : None ≡ Some n = h in absurd (cc)
listed_by xs r n (Some x) e h = put_by xs r n x x.declaration.existing e refl h

listed_of_nested : (u : TemplateTree) (xs : List Listed) (r : ℕ) (n : Nested) → xs ≡ resources_in u
    → nested_at u r ≡ Some n → IsNestedAt xs r n
unfolding resource_at
listed_of_nested u xs r n e h =
    listed_by xs r n (slice_get xs r) refl
    (ap (λ ys. option_and_then (λ (y : Listed). nested_in y.content) (option_and_then unless_existing
    (slice_get ys r))) e ∙ h)

-- ---- the opener of a scope

module _ (t : Table) (g : ℕ) (s : Step) (p : Position) (start : IsStartTable t) (there : g < length t.frames.items)
    (at : (scope_at t g).position ≡ s ∷ p) where
  abbrev os : List Opened
  os = scopes_of t

  abbrev σ : Cell → Option Status
  σ = status_of (rows_in t)

  size : length os ≡ length t.frames.items
  size = length-map t.frames.items opened_of

  inside : g < length os
  inside = let n = size in omega (arith, n, there)

  kept : IsKept (whole_of t) os g (scope_at t g)
  kept = start.laid.kept g inside

  pub around : ((scope_at t g).around < g) × ((opened_at os (scope_at t g).around).position ≡ p)
  around = subst (λ z. IsAround os g (scope_at t g) z) at kept.around

  abbrev f : ℕ
  f = (scope_at t g).around

  above : IsKept (whole_of t) os f (scope_at t f)
  above = start.laid.kept f (let a = around.0 in let n = inside in omega (arith, a, n))

  status_there : (j : ℕ) (c : Cell) → j < length (rows_in t) → (row_at (rows_in t) j).cell ≡ c
      → σ c ≡ Some (row_at (rows_in t) j).status
  status_there j c h e =
      ap σ (sym e) ∙ status_found (rows_in t) j start.filled.sound.distinct h

  -- the condition has the value true
  condition : IsBy σ (included p s) (deployments (s ∷ p))
  condition =
      let a = start.laid.cells g inside (Deployments g) refl tt tt in
      let n = length_rows os t.lines.items in
      let h = a.listed in
      let row : (row_at (rows_in t) a.line).cell ≡ deployments (s ∷ p) =
      ap (λ (r : Row). r.cell) (row_here os t.lines.items a.line a.listed) ∙ ap (cell_of os) a.is
      ∙ ap deployments at in
      opened_by (whole_of t) σ (included p s) (deployments (s ∷ p)) (row_at (rows_in t) a.line).status
      start.filled.sound.good refl (status_there a.line (deployments (s ∷ p)) (omega (arith, n, h)) row)

  counted : IsBy σ (count p s.resource) (included p s)
  counted =
      opened_by (whole_of t) σ (count p s.resource) (included p s) (Value condition.value)
      start.filled.sound.good refl condition.has

  pub is_true_there : is_in (start_of t) p s ≡ true
  is_true_there = ap (λ o. is_true (known_value (or_unlisted σ (included p s) o))) condition.has ∙ condition.admitted

  pub copy_within : s.copy < copies_in (start_of t) p s.resource
  copy_within =
      subst (λ n. s.copy < n)
      (sym (ap (λ o. copies (known_value (or_unlisted σ (count p s.resource) o))) counted.has))
      (lt_of_true s.copy (copies (Some counted.value)) counted.admitted)

  nested : HasNested (scope_at t f).template s.resource (scope_at t g).template
  nested =
      template_above (whole_of t).template (scope_at t f).template (scope_at t g).template s p
      (ap (template_at (whole_of t).template) (sym around.1) ∙ above.template)
      (ap (template_at (whole_of t).template) (sym at) ∙ kept.template)

  listed : IsNestedAt (scope_at t f).resources s.resource nested.nested
  listed =
      listed_of_nested (scope_at t f).template (scope_at t f).resources s.resource nested.nested above.resources
      nested.is

  abbrev instance_there : IsInstance t f s.resource s.copy
  instance_there = record {
    there = let a = around.0 in omega (arith, a, there);
    number = record { listed = listed.listed; has = listed.has; is_put = listed.is_put };
    within = subst (λ z. s.copy < copies_in (start_of t) z s.resource) (sym around.1) copy_within;
  }

  pub opener_there : IsOpener t g (record { frame = f; resource = s.resource; copy = s.copy })
  opener_there = record {
    is_instance = instance_there;
    is_included = ap (λ z. is_in (start_of t) z s) around.1 ∙ is_true_there;
    nested = nested.nested;
    is_nested = listed.is;
    is_scope = record {
      there = there;
      later = around.0;
      position = at ∙ ap (λ z. s ∷ z) (sym around.1);
      template = nested.template;
    };
  }

-- ---- what the code reads of a frame

pub opened_frame : (t : Table) (g : ℕ) (fr : Frame) (i : Instance) (rest : List Instance) → IsStartTable t
    → g < length t.frames.items → fr ≡ get_or t.frames.items g fr → fr.position.items ≡ i ∷ rest
    → IsOpener t g (record { frame = fr.around; resource = i.resource; copy = i.copy })
opened_frame t g fr i rest s h e c =
    let is : scope_at t g ≡ opened_of fr = frame_is t.frames.items g fr h e in
    subst (λ (n : ℕ). IsOpener t g (record { frame = n; resource = i.resource; copy = i.copy }))
    (ap (λ (o : Opened). o.around) is)
    (opener_there t g (step_of i) (map step_of rest) s h
    (ap (λ (o : Opened). o.position) is ∙ ap (map step_of) c))

pub root_frame : (t : Table) (g : ℕ) (fr : Frame) → g < length t.frames.items → fr ≡ get_or t.frames.items g fr
    → fr.position.items ≡ [] → (scope_at t g).position ≡ []
root_frame t g fr h e c =
    ap (λ (o : Opened). o.position) (frame_is t.frames.items g fr h e) ∙ ap (map step_of) c

pub first_frame : (t : Table) (g : ℕ) (fr : Frame) (i : Instance) (is : List Instance) → IsStartTable t
    → g < length t.frames.items → fr ≡ get_or t.frames.items g fr → is ≡ fr.position.items
    → Some i ≡ slice_get is 0 → IsOpener t g (record { frame = fr.around; resource = i.resource; copy = i.copy })
first_frame t g fr i [] s h e c f = absurd (cc)
first_frame t g fr i (y ∷ ys) s h e c f =
    let same : y ≡ i = cc in
    opened_frame t g fr i ys s h e (sym c ∙ ap (λ (x : Instance). x ∷ ys) same)
