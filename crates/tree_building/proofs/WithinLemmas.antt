-- The parts of a value that is within the limits are within them.
use Rattle.std.proofs.Common.{◌≡◌, ◌≤◌, ℕ, suc, List, [], ◌∷◌, Option, Bool, true, false, Result, Ok, Err}
use Rattle.std.proofs.Common.{sym, subst, arith}
use Rattle.std.specs.Prelude.{IfOk, if◌then◌else◌}
use Rattle.std.specs.declared.alloc.AllocError.{AllocError}
use Rattle.arm_value.specs.Json.{items_nesting}
use Rattle.arm_expr.specs.Tree.{Tree}
use Rattle.bicep_resolved.specs.Source.{SourceTree, SourceTrees, PropertyTrees, ValueTree}
use Rattle.bicep_resolved.specs.Source as s
use Rattle.emitted_expressions.specs.Emitted.{Frame, element}
use Rattle.emitted_expressions.specs.Sight.{Sight}
use Rattle.emitted_trees.specs.EmittedTrees.{copy_index, has_copy}
use Rattle.emitted_trees.specs.Templates.{TemplateMembers}
use Rattle.emitted_trees.specs.Templates as t
use Rattle.tree_building.specs.Each.{AreSmall, ItemsAreSmall, MembersAreSmall, ValueIsSmall}
use Rattle.tree_building.specs.Built.{members_of, all_grown, AreParts}
use Rattle.tree_building.specs.Depth.{depth, items_depth, members_depth, value_depth}
use Rattle.tree_building.specs.Sight as spec
use Rattle.tree_building.specs.declared.parts.Parts.{Parts}
use Rattle.tree_building.proofs.GrownLemmas.{loops_are}
use Rattle.tree_building.proofs.NestLemmas.{loops_nest}

within_by : (b : Bool) (x : Tree) (ms : TemplateMembers) → b ≡ false
    → AreSmall (if b then t.expression x else t.object ms) → MembersAreSmall ms
within_by true x ms e h = absurd cc
within_by false x ms e h = h

flat_by : (b : Bool) (x : Tree) (ms : TemplateMembers) → b ≡ false
    → depth (if b then t.expression x else t.object ms) ≤ 119 → members_depth ms ≤ 119
flat_by true x ms e h = absurd cc
flat_by false x ms e h = omega arith

module _ (w : Sight) (fs : List Frame) where
  -- the members of an object that is no expression
  pub members_within : (y : SourceTree) (at : ℕ) (ps : PropertyTrees) → y ≡ s.object at ps → has_copy ps ≡ false
      → AreSmall (spec.tree w y fs) → MembersAreSmall (spec.members w ps fs)
  members_within y at ps e n h =
      within_by (has_copy ps) (spec.expression w (s.object at ps) fs) (spec.members w ps fs) n
      (subst (λ y. AreSmall (spec.tree w y fs)) e h)

  pub members_flat : (y : SourceTree) (at : ℕ) (ps : PropertyTrees) → y ≡ s.object at ps → has_copy ps ≡ false
      → depth (spec.tree w y fs) ≤ 119 → members_depth (spec.members w ps fs) ≤ 119
  members_flat y at ps e n h =
      flat_by (has_copy ps) (spec.expression w (s.object at ps) fs) (spec.members w ps fs) n
      (subst (λ y. depth (spec.tree w y fs) ≤ 119) e h)

  pub items_within : (y : SourceTree) (at : ℕ) (es : SourceTrees) → y ≡ s.array at es
      → AreSmall (spec.tree w y fs) → ItemsAreSmall (spec.items w es fs)
  items_within y at es e h = subst (λ y. AreSmall (spec.tree w y fs)) e h

  pub items_flat : (y : SourceTree) (at : ℕ) (es : SourceTrees) → y ≡ s.array at es
      → depth (spec.tree w y fs) ≤ 119 → items_depth (spec.items w es fs) ≤ 119
  items_flat y at es e h =
      let g : depth (spec.tree w (s.array at es) fs) ≤ 119 = subst (λ y. depth (spec.tree w y fs) ≤ 119) e h in
      omega arith

  module _ (name : Option (List ℕ)) (v : ValueTree) where
    pub plain_within : (x : SourceTree) → v ≡ s.plain x → ValueIsSmall (spec.value w name v fs)
        → AreSmall (spec.tree w x fs)
    plain_within x e h = subst (λ v. ValueIsSmall (spec.value w name v fs)) e h

    pub plain_flat : (x : SourceTree) → v ≡ s.plain x → value_depth (spec.value w name v fs) ≤ 119
        → depth (spec.tree w x fs) ≤ 119
    plain_flat x e h = subst (λ v. value_depth (spec.value w name v fs) ≤ 119) e h

    -- the frames around the body of a loop over a value
    abbrev inside : SourceTree → List Frame
    inside xs = element (spec.expression w xs fs) (copy_index name) ∷ fs

    pub each_within : (at : ℕ) (xs x : SourceTree) (gs : List Frame) → v ≡ s.each (s.loop at xs) x → gs ≡ inside xs
        → ValueIsSmall (spec.value w name v fs) → AreSmall (spec.tree w x gs)
    each_within at xs x gs e i h =
        let g = subst (λ v. ValueIsSmall (spec.value w name v fs)) e h in
        subst (λ gs. AreSmall (spec.tree w x gs)) (sym i) g.1

    pub each_flat : (at : ℕ) (xs x : SourceTree) (gs : List Frame) → v ≡ s.each (s.loop at xs) x → gs ≡ inside xs
        → value_depth (spec.value w name v fs) ≤ 119 → depth (spec.tree w x gs) ≤ 119
    each_flat at xs x gs e i h =
        let g : value_depth (spec.value w name (s.each (s.loop at xs) x) fs) ≤ 119 =
        subst (λ v. value_depth (spec.value w name v fs) ≤ 119) e h in
        subst (λ gs. depth (spec.tree w x gs) ≤ 119) (sym i) (less (depth (spec.tree w x (inside xs))) g)
      where
        less : (n : ℕ) → suc (suc n) ≤ 119 → n ≤ 119
        less n l = omega arith

-- the loops of members that are built
pub parts_nest : (ms : TemplateMembers) (r : Result Parts AllocError) → AreParts (all_grown ms ([], [])) r
    → members_depth ms ≤ 119 → IfOk r (λ p. items_nesting (members_of p).1 ≤ 118)
parts_nest ms (Ok p) h d =
    subst (λ js. items_nesting js ≤ 118) (sym (loops_are ms (members_of p) h)) (loops_nest ms 118 d)
parts_nest ms (Err e) h d = tt
