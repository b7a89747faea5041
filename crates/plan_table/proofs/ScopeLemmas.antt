-- Scopes stay as they are kept, and a scope that is opened is kept.
use Rattle.std.proofs.Common.{◌≡◌, ◌⊎◌, inl, inr, ℕ, zero, suc, ◌+◌, ◌<◌, ◌≤◌, Bool, true, false, List, [], ◌∷◌, ◌++◌}
use Rattle.std.proofs.Common.{map, length, get_or, Option, Some, None, refl, sym, ap, subst, ◌∙◌, arith, not}
use Rattle.std.proofs.Common.{length-append}
use Rattle.std.proofs.Math.ListN.{get_or-append}
use Rattle.std.specs.Prelude.{slice_get, option_map, option_and_then, if◌then◌else◌}
use Rattle.arm_env.specs.declared.env.Looping.{Looping}
use Rattle.template_tree.specs.Tree.{TemplateTree}
use Rattle.plan_filling.specs.Cells.{Step, step, Position}
use Rattle.plan_filling.specs.Resources.{Listed, Nested, resources_in, resource_at, unless_existing, nested_at, nested_in}
use Rattle.plan_filling.specs.Scopes.{template_at, resource_of, nested_of, owner, loops_around, loop_of, is_outer, is_outer_scope}
use Rattle.plan_filling.specs.Meaning.{Deployment, is_own}
use Rattle.plan_table.specs.declared.line.Spot.{Spot}
use Rattle.plan_table.specs.Opened.{Opened, blank, opened_at, root_of, owner_inside, loops_within, inside_of, IsAround}
use Rattle.plan_table.specs.Opened.{IsKept}
use Rattle.plan_table.specs.Lines.{frame_of, cell_in, cell_of, IsNumber, IsDeclared, IsPlaced}
use Rattle.plan_table.specs.Keys.{shape, key_of}
use Rattle.plan_table.proofs.KeyLemmas.{get_after}

-- more scopes
pub opened_before : (os ps : List Opened) (f : ℕ) → f < length os → opened_at (os ++ ps) f ≡ opened_at os f
opened_before os ps f h = get_or-append os ps blank f h

pub opened_last : (os : List Opened) (o : Opened) → opened_at (os ++ o ∷ []) (length os) ≡ o
opened_last os o =
    ap (opened_at (os ++ o ∷ [])) (let e : length os ≡ length os + 0 = omega arith in e) ∙ get_after os (o ∷ []) 0 blank

pub length_last : (os : List Opened) (o : Opened) → length (os ++ o ∷ []) ≡ suc (length os)
length_last os o = length-append os (o ∷ []) ∙ (let e : length os + 1 ≡ suc (length os) = omega arith in e)

-- the scopes of the first list are those of the second
pub record Extends (os us : List Opened) : Type 0 where
  pub longer : length os ≤ length us
  pub same : (f : ℕ) → f < length os → opened_at us f ≡ opened_at os f

pub extends_more : (os : List Opened) (o : Opened) → Extends os (os ++ o ∷ [])
extends_more os o = record {
  longer = let e = length_last os o in omega (arith, e);
  same = λ f h. opened_before os (o ∷ []) f h;
}

pub extends_same : (os : List Opened) → Extends os os
extends_same os = record { longer = omega arith; same = λ f h. refl }

pub cell_still : (os us : List Opened) → Extends os us → (s : Spot) → IsPlaced os s → cell_of us s ≡ cell_of os s
cell_still os us x s p = ap (λ o. cell_in o s) (x.same (frame_of s) p.there)

pub key_still : (os us : List Opened) → Extends os us → (s : Spot) → IsPlaced os s → key_of us s ≡ key_of os s
key_still os us x s p = ap (λ c. frame_of s ∷ shape c) (cell_still os us x s p)

pub placed_still : (os us : List Opened) → Extends os us → (s : Spot) → IsPlaced os s → IsPlaced us s
placed_still os us x s p = record {
  there = let l = x.longer in let o = p.there in omega (arith, l, o);
  declared = subst (λ o. IsDeclared o s) (sym (x.same (frame_of s) p.there)) p.declared;
}

around_still : (os us : List Opened) → Extends os us → (f : ℕ) (o : Opened) (p : Position) → f < length os
    → IsAround os f o p → IsAround us f o p
around_still os us x f o [] h a = a
around_still os us x f o (s ∷ p) h a =
    (a.0, ap (λ y. y.position) (x.same o.around (let l = a.0 in omega (arith, l, h))) ∙ a.1)

pub kept_still : (d : Deployment) (os us : List Opened) → Extends os us → (f : ℕ) (o : Opened) → f < length os
    → IsKept d os f o → IsKept d us f o
kept_still d os us x f o h k = record {
  template = k.template;
  resources = k.resources;
  around = around_still os us x f o o.position h k.around;
  owner_listed = k.owner_listed;
  owner = ap (λ y. y.position) (x.same o.owner (let l = k.owner_listed in omega (arith, l, h))) ∙ k.owner;
  loops = k.loops;
  own = k.own;
}

-- ---- a scope that an instance opens

pub resource_here : (t : TemplateTree) (o : Opened) (r : ℕ) (x : Listed) → o.resources ≡ resources_in t
    → slice_get o.resources r ≡ Some x → x.declaration.existing ≡ false → resource_at t r ≡ Some x
unfolding resource_at
resource_here t o r x e h f =
    ap (λ xs. option_and_then unless_existing (slice_get xs r)) (sym e) ∙ ap (option_and_then unless_existing) h
    ∙ not_existing x.declaration.existing x f
  where
    not_existing : (b : Bool) (x : Listed) → b ≡ false → (if b then None else Some x) ≡ Some x
    not_existing b x e = rw e refl

pub nested_here : (t : TemplateTree) (r : ℕ) (x : Listed) → resource_at t r ≡ Some x
    → nested_at t r ≡ nested_in x.content
nested_here t r x e = ap (option_and_then (λ y. nested_in y.content)) e

module _ (d : Deployment) (os : List Opened) (f r i : ℕ) (o : Opened) (x : Listed) (n : Nested) (h : f < length os)
    (is : opened_at os f ≡ o) (kept : IsKept d os f o) (resource : resource_at o.template r ≡ Some x)
    (nested : nested_in x.content ≡ Some n) where
  abbrev g : ℕ
  g = length os

  abbrev inside : Opened
  inside = inside_of f g o x r i n

  abbrev us : List Opened
  us = os ++ inside ∷ []

  resource_is : resource_of d.template o.position r ≡ Some x
  resource_is = ap (option_and_then (λ u. resource_at u r)) kept.template ∙ resource

  nested_is : nested_of d.template o.position (step r i) ≡ Some n
  nested_is = ap (option_and_then (λ u. nested_at u r)) kept.template ∙ nested_here o.template r x resource ∙ nested

  outer_is : is_outer (nested_of d.template o.position (step r i)) ≡ is_outer_scope n.scope
  outer_is = ap is_outer nested_is

  template_is : template_at d.template (step r i ∷ o.position) ≡ Some n.template
  unfolding template_at
  template_is = ap (option_map (λ m. m.template)) nested_is

  around_is : (opened_at us f).position ≡ o.position
  around_is = ap (λ y. y.position) (opened_before os (inside ∷ []) f h ∙ is)

  owner_by : (b : Bool) → (opened_at us (owner_inside b o.owner g)).position
      ≡ (if b then owner d.template o.position else step r i ∷ o.position)
  owner_by true =
      ap (λ y. y.position) (opened_before os (inside ∷ []) o.owner (let l = kept.owner_listed in omega (arith, l, h)))
      ∙ kept.owner
  owner_by false = ap (λ y. y.position) (opened_last os inside)

  owner_is : (opened_at us inside.owner).position ≡ owner d.template (step r i ∷ o.position)
  unfolding owner
  owner_is =
      owner_by (is_outer_scope n.scope)
      ∙ ap (λ b. if b then owner d.template o.position else step r i ∷ o.position) (sym outer_is)

  loops_by : (b : Bool) → loops_within b (loop_of (Some x) i ++ o.loops)
      ≡ (if b then loop_of (resource_of d.template o.position r) i ++ loops_around d.template o.position else [])
  loops_by true =
      ap (λ ls. loop_of (Some x) i ++ ls) kept.loops
      ∙ ap (λ y. loop_of y i ++ loops_around d.template o.position) (sym resource_is)
  loops_by false = refl

  loops_are : inside.loops ≡ loops_around d.template (step r i ∷ o.position)
  unfolding loops_around
  loops_are =
      loops_by (is_outer_scope n.scope)
      ∙ ap (λ b. if b then loop_of (resource_of d.template o.position r) i ++ loops_around d.template o.position
      else [])
      (sym outer_is)

  owner_most : (b : Bool) → owner_inside b o.owner g ≤ g
  owner_most true = let l = kept.owner_listed in omega (arith, l, h)
  owner_most false = omega arith

  pub inside_kept : IsKept d us g inside
  inside_kept = record {
    template = template_is;
    resources = refl;
    around = (h, around_is);
    owner_listed = owner_most (is_outer_scope n.scope);
    owner = owner_is;
    loops = loops_are;
    own = ap not (sym outer_is);
  }

-- the root
pub root_kept : (d : Deployment) (os : List Opened) → opened_at os 0 ≡ root_of d.template
    → IsKept d os 0 (root_of d.template)
unfolding template_at owner loops_around
root_kept d os e = record {
  template = refl;
  resources = refl;
  around = refl;
  owner_listed = omega arith;
  owner = ap (λ y. y.position) e;
  loops = refl;
  own = refl;
}
