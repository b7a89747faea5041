-- The sites of expressions, as the code has them.
use Rattle.std.proofs.Common.{◌≡◌, ℕ, ◌<◌, false, List, ◌++◌, length, get_or, Some, sym, ap, ◌∙◌}
use Rattle.std.specs.Prelude.{option_and_then, slice_get}
use Rattle.arm_env.specs.declared.env.Looping.{Looping}
use Rattle.deploy_cells.specs.Cells.{Step}
use Rattle.plan_cells.specs.Resources.{Listed, header_in, resource_at}
use Rattle.plan_cells.specs.Scopes.{template_at, resource_of, loop_at, loop_of, loops_around, loops_inside}
use Rattle.plan_cells.specs.Sites.{texts_by, early_texts_by, form_at, scope_site, count_site, body_site}
use Rattle.plan_cells.specs.Sites.{condition_site, Texts}
use Rattle.plan_table.specs.declared.frame.Frame.{Frame}
use Rattle.plan_table.specs.declared.table.Table.{Table}
use Rattle.plan_table.specs.Lines.{IsNumber}
use Rattle.plan_table.specs.Opened.{Opened}
use Rattle.plan_table.specs.Whole.{whole_of}
use Rattle.plan_table.specs.Found.{scope_at}
use Rattle.plan_table.proofs.ScopeLemmas.{resource_here}
use Rattle.plan_sight.specs.Ready.{IsReady}
use Rattle.plan_sight.proofs.LookLemmas.{scope_is, scopes_there}
use Rattle.plan_values.specs.Values.{instance_site}

-- the form of the template of a frame that was read
pub form_here : (t : Table) (f : ℕ) (fr : Frame) → f < length t.frames.items → fr ≡ get_or t.frames.items f fr
    → fr.template.now.form ≡ (header_in (scope_at t f).template).form
form_here t f fr h e = ap (λ (o : Opened). (header_in o.template).form) (sym (scope_is t f fr h e))

module _ (t : Table) (f : ℕ) (ready : IsReady t) (h : f < length t.frames.items) where
  form_is : form_at (template_at (whole_of t).template (scope_at t f).position)
      ≡ (header_in (scope_at t f).template).form
  form_is = ap form_at (ready.laid.kept f (scopes_there t f h)).template

  loops_is : (scope_at t f).loops ≡ loops_around (whole_of t).template (scope_at t f).position
  loops_is = (ready.laid.kept f (scopes_there t f h)).loops

  pub scope_site_is : (ls : List Looping) (x : Texts) → ls ≡ (scope_at t f).loops
      → x ≡ texts_by (header_in (scope_at t f).template).form
      → record { at = (scope_at t f).position; loops = ls; texts = x }
      ≡ scope_site (whole_of t).template (scope_at t f).position
  scope_site_is ls x e q =
      let loops = e ∙ loops_is in
      let texts = q ∙ ap texts_by (sym form_is) in
      λ i. record { at = (scope_at t f).position; loops = loops i; texts = texts i }

  pub count_site_is : (ls : List Looping) (x : Texts) → ls ≡ (scope_at t f).loops
      → x ≡ early_texts_by (header_in (scope_at t f).template).form
      → record { at = (scope_at t f).position; loops = ls; texts = x }
      ≡ count_site (whole_of t).template (scope_at t f).position
  count_site_is ls x e q =
      let loops = e ∙ loops_is in
      let texts = q ∙ ap early_texts_by (sym form_is) in
      λ i. record { at = (scope_at t f).position; loops = loops i; texts = texts i }

  -- the resource of a number
  pub resource_is : (r : ℕ) (x : Listed) → slice_get (scope_at t f).resources r ≡ Some x
      → x.declaration.existing ≡ false → resource_of (whole_of t).template (scope_at t f).position r ≡ Some x
  resource_is r x e b =
      let kept = ready.laid.kept f (scopes_there t f h) in
      ap (option_and_then (λ u. resource_at u r)) kept.template
      ∙ resource_here (scope_at t f).template (scope_at t f) r x kept.resources e b

  pub resource_numbered : (r : ℕ) (n : IsNumber (scope_at t f) r)
      → resource_of (whole_of t).template (scope_at t f).position r ≡ Some n.listed
  resource_numbered r n = resource_is r n.listed n.has n.is_put

  pub instance_site_is : (s : Step) (n : IsNumber (scope_at t f) s.resource) (ls around : List Looping) (x : Texts)
      → around ≡ (scope_at t f).loops → ls ≡ loop_at n.listed.declaration.copy s.copy ++ around
      → record { at = (scope_at t f).position; loops = ls; texts = x } ≡ instance_site t f s x
  instance_site_is s n ls around x e q =
      let loops = q ∙ ap (λ ys. loop_at n.listed.declaration.copy s.copy ++ ys) (e ∙ loops_is)
      ∙ ap (λ o. loop_of o s.copy ++ loops_around (whole_of t).template (scope_at t f).position)
      (sym (resource_numbered s.resource n)) in
      λ i. record { at = (scope_at t f).position; loops = loops i; texts = x }

  pub body_site_is : (s : Step) (x : Texts) → x ≡ texts_by (header_in (scope_at t f).template).form
      → instance_site t f s x ≡ body_site (whole_of t).template (scope_at t f).position s
  body_site_is s x q =
      let texts = q ∙ ap texts_by (sym form_is) in
      λ i. record {
        at = (scope_at t f).position;
        loops = loops_inside (whole_of t).template (scope_at t f).position s;
        texts = texts i;
      }

  pub condition_site_is : (s : Step) (x : Texts) → x ≡ early_texts_by (header_in (scope_at t f).template).form
      → instance_site t f s x ≡ condition_site (whole_of t).template (scope_at t f).position s
  condition_site_is s x q =
      let texts = q ∙ ap early_texts_by (sym form_is) in
      λ i. record {
        at = (scope_at t f).position;
        loops = loops_inside (whole_of t).template (scope_at t f).position s;
        texts = texts i;
      }

-- the resource of a number is the one that was looked up
pub one_listed : (t : Table) (f r : ℕ) (n : IsNumber (scope_at t f) r) (x : Listed)
    → slice_get (scope_at t f).resources r ≡ Some x → n.listed ≡ x
one_listed t f r n x has = let same : Some n.listed ≡ Some x = sym n.has ∙ has in cc

pub two_listed : (t : Table) (f r : ℕ) (x y : Listed) → slice_get (scope_at t f).resources r ≡ Some x
    → slice_get (scope_at t f).resources r ≡ Some y → x ≡ y
two_listed t f r x y h e = let same : Some x ≡ Some y = sym h ∙ e in cc
