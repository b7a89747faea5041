-- The tasks of a template are those of its program.
use Rattle.std.proofs.Common.{◌≡◌, ℕ, Bool, true, false, List, [], ◌∷◌, Option, Some, None, refl, sym, ap}
use Rattle.std.proofs.Common.{◌∙◌, subst}
use Rattle.std.specs.Prelude.{is_some, option_map, option_and_then}
use Rattle.foundation.proofs.Options.{same_some, none_there, some_there}
use Rattle.arm_value.specs.Json.{bool}
use Rattle.arm_ids.specs.Held.{HeldResource}
use Rattle.template_parameters.specs.Binding.{BoundMeaning}
use Rattle.template_parts.specs.declared.mode.Form.{Form}
use Rattle.template_tree.specs.Tree.{TemplateTree}
use Rattle.deploy_cells.specs.Cells.{Step, step, Position, Cell, included, World}
use Rattle.deploy_cells.specs.Puts.{Kind}
use Rattle.plan_cells.specs.Desired.{kind_of}
use Rattle.plan_cells.specs.Meaning.{Deployment}
use Rattle.plan_cells.specs.Resources.{Listed, nested_in, nested_at, resource_at}
use Rattle.plan_cells.specs.Scopes.{template_at, resource_of}
use Rattle.plan_cells.specs.TaskOf as template
use Rattle.plan_cells.specs.Tasks.{Task, enter, leave, put, delete}
use Rattle.bicep_meaning.specs.Instances as source
use Rattle.bicep_meaning.specs.Instances.{SourceProgram}
use Rattle.cell_renaming.specs.Renaming.{Renaming, IsOneToOne, to_position, from_position, resource_at as number_at}
use Rattle.cell_renaming.specs.Renaming.{to_cell, from_cell, renamed}
use Rattle.cell_renaming.proofs.CellLemmas.{from-to_position, from-to_cell}
use Rattle.cell_renaming.proofs.OptionLemmas.{of_both, of_map, of_then, to_both}
use Rattle.cell_renaming.proofs.ParentLemmas.{renamed_is}
use Rattle.source_needs.specs.Tasks.{IsIncluded, IsTask}
use Rattle.source_worlds.specs.Numbers.{numbering}
use Rattle.source_worlds.proofs.NumberLemmas.{one_to_one}
use Rattle.emitted_files.proofs.KindLemmas.{kinds_same}
use Rattle.emitted_programs.specs.Given.{IsDeployed, deployed}
use Rattle.emitted_needs.specs.Tasks.{to_task}
use Rattle.emitted_plans.specs.Deletions.{IsNoDeletion}

nested_by : (m : ℕ) (o : Option TemplateTree) → option_and_then (λ v. nested_at v m) o
    ≡ option_and_then (λ (r : Listed). nested_in r.content) (option_and_then (λ v. resource_at v m) o)
nested_by m None = refl
nested_by m (Some v) = refl

-- the number of the resource of an instance
abbrev number_of : Cell → ℕ
number_of (included p s) = s.resource
number_of c = 0

same_number : (p q : Position) (m : ℕ) (t : Step) → included p (step m t.copy) ≡ included q t → m ≡ t.resource
same_number p q m t e = ap number_of e

module _ (z : Form) (d : SourceProgram) (u : TemplateTree) (bound : List (List ℕ × BoundMeaning))
    (held : List HeldResource) (h : IsDeployed z d u bound held) (w : World) where
  abbrev r : Renaming
  r = numbering z d.files

  i : IsOneToOne r
  i = one_to_one z d.files

  abbrev rw : World
  rw = renamed r w

  abbrev dep : Deployment
  dep = deployed d u bound

  -- ---- forth

  module _ (p q : Position) (s : Step) (m : ℕ) (at : to_position r p ≡ Some q) (number : r.number p s.resource ≡ Some m)
      (b : Bool) (k : IsIncluded d w p s b) where
    entry : (x : Listed) × ((resource_of u q m ≡ Some x) × (is_some (nested_in x.content) ≡ b))
    entry =
        let g = of_map (resource_of u q m) kind_of k.kind (kinds_same z d dep h.emitted p q s.resource m at number
        ∙ k.is_declared) in
        (g.left, (g.first, ap (λ (y : Kind). y.is_deployment) g.made ∙ k.is_of))

    is_included : rw (included q (step m s.copy)) ≡ Some (bool true)
    is_included =
        renamed_is r i w (included p s) (included q (step m s.copy))
        (to_both (to_position r p) (r.number p s.resource) (λ q m. included q (step m s.copy)) q m at number)
        ∙ k.has_condition

    entered : b ≡ true → template.IsInside dep rw q (step m s.copy)
    entered e =
        let n = some_there (nested_in entry.0.content) (entry.1.1 ∙ e) in
        record {
          nested = n.0;
          is_nested = nested_by m (template_at u q)
              ∙ ap (option_and_then (λ (r : Listed). nested_in r.content)) entry.1.0 ∙ n.1;
          is_included = is_included;
        }

    put_there : b ≡ false → template.IsResource dep rw q (step m s.copy)
    put_there e = record {
      listed = entry.0;
      is_listed = entry.1.0;
      is_put = none_there (nested_in entry.0.content) (entry.1.1 ∙ e);
      is_included = is_included;
    }

  scope_forth : (p q : Position) → to_position r p ≡ Some q → IsTask d w (enter p) → template.IsScope dep rw q
  scope_forth [] q e k = subst (template.IsScope dep rw) (same_some e) tt
  scope_forth (s ∷ p) q e k =
      let g = of_both (to_position r p) (r.number p s.resource) (λ q m. step m s.copy ∷ q) q e in
      subst (template.IsScope dep rw) g.made (entered p g.left s g.right g.first g.second true k refl)

  pub task_forth : (x a : Task) → to_task r x ≡ Some a → IsTask d w x → IsNoDeletion x
      → template.IsTask dep rw a
  task_forth (enter p) a e k n =
      let g = of_map (to_position r p) enter a e in
      subst (template.IsTask dep rw) g.made (scope_forth p g.left g.first k)
  task_forth (leave p) a e k n =
      let g = of_map (to_position r p) leave a e in
      subst (template.IsTask dep rw) g.made (scope_forth p g.left g.first k)
  task_forth (put p s) a e k n =
      let g = of_both (to_position r p) (r.number p s.resource) (λ q m. put q (step m s.copy)) a e in
      subst (template.IsTask dep rw) g.made (put_there p g.left s g.right g.first g.second false k refl)
  task_forth (delete l) a e k n = absurd n

  -- ---- back

  -- the instance that a new one is of
  record IsOf (q : Position) (t : Step) : Type 0 where
    pub at : Position
    pub instance : Step
    pub is_new : to_position r at ≡ Some q
    pub is_number : r.number at instance.resource ≡ Some t.resource
    pub same_copy : instance.copy ≡ t.copy
    pub has_condition : w (included at instance) ≡ Some (bool true)

  instance_of : (q : Position) (t : Step) → rw (included q t) ≡ Some (bool true) → IsOf q t
  instance_of q t e =
      let c = of_then (from_cell r (included q t)) w (bool true) e in
      let g = of_both (from_position r q) (number_at r q t.resource) (λ p n. included p (step n t.copy)) c.left c.first
      in
      let f = of_both (to_position r g.left) (r.number g.left g.right) (λ q m. included q (step m t.copy))
      (included q t)
      (ap (to_cell r) g.made ∙ from-to_cell r i (included q t) c.left c.first) in
      record {
        at = g.left;
        instance = step g.right t.copy;
        is_new = from-to_position r i q g.left g.first;
        is_number = f.second ∙ ap (λ m. Some m) (same_number f.left q f.right t f.made);
        same_copy = refl;
        has_condition = ap w g.made ∙ c.made;
      }

  kind_back : (q : Position) (t : Step) (o : IsOf q t) (x : Listed) → resource_of u q t.resource ≡ Some x
      → source.kinds d o.at o.instance.resource ≡ Some (kind_of x)
  kind_back q t o x e =
      sym (kinds_same z d dep h.emitted o.at q o.instance.resource t.resource o.is_new o.is_number)
      ∙ ap (option_map kind_of) e

  included_back : (q : Position) (t : Step) (o : IsOf q t) (x : Listed) (b : Bool)
      → resource_of u q t.resource ≡ Some x → is_some (nested_in x.content) ≡ b
      → IsIncluded d w o.at o.instance b
  included_back q t o x b e g = record {
    kind = kind_of x;
    is_declared = kind_back q t o x e;
    is_of = g;
    has_condition = o.has_condition;
  }

  same_step : (q : Position) (t : Step) (o : IsOf q t) → step t.resource o.instance.copy ≡ t
  same_step q t o = ap (step t.resource) o.same_copy

  position_back : (q : Position) (t : Step) (o : IsOf q t)
      → to_position r (o.instance ∷ o.at) ≡ Some (t ∷ q)
  position_back q t o =
      to_both (to_position r o.at) (r.number o.at o.instance.resource) (λ q m. step m o.instance.copy ∷ q) q t.resource
      o.is_new o.is_number
      ∙ ap (λ t. let p : Option Position = Some (t ∷ q) in p) (same_step q t o)

  scope_back : (q : Position) → template.IsScope dep rw q
      → (p : Position) × ((to_position r p ≡ Some q) × IsTask d w (enter p))
  scope_back [] k = ([], (refl, tt))
  scope_back (t ∷ q) k =
      let o = instance_of q t k.is_included in
      let g = of_then (resource_of u q t.resource) (λ (r : Listed). nested_in r.content) k.nested
      (sym (nested_by t.resource (template_at u q)) ∙ k.is_nested) in (
        o.instance ∷ o.at,
        (position_back q t o, included_back q t o g.left true g.first (ap is_some g.made)),
      )

  pub task_back : (a : Task) → template.IsTask dep rw a
      → (x : Task) × ((to_task r x ≡ Some a) × IsTask d w x)
  task_back (enter q) k =
      let g = scope_back q k in (enter g.0, (ap (option_map enter) g.1.0, g.1.1))
  task_back (leave q) k =
      let g = scope_back q k in (leave g.0, (ap (option_map leave) g.1.0, g.1.1))
  task_back (put q t) k =
      let o = instance_of q t k.is_included in (
        put o.at o.instance,
        (
          to_both (to_position r o.at) (r.number o.at o.instance.resource) (λ q m. put q (step m o.instance.copy)) q
              t.resource o.is_new o.is_number
              ∙ ap (λ t. Some (put q t)) (same_step q t o),
          included_back q t o k.listed false k.is_listed (ap is_some k.is_put),
        ),
      )
  task_back (delete l) k = absurd k
