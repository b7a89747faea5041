-- Values of files without faults are sound, by the tree of their expressions.
use Rattle.std.proofs.Common.{◌≡◌, ℕ, Bool, true, false, true≢false, List, [], ◌∷◌, Option, Some, None}
use Rattle.std.proofs.Common.{refl, sym, ap, ◌∙◌, subst}
use Rattle.std.specs.Prelude.{if◌then◌else◌}
use Rattle.foundation.proofs.TruthValues.{nor, or_right}
use Rattle.foundation.specs.Options.{or_else}
use Rattle.arm_value.specs.Look.{fold}
use Rattle.arm_ids.proofs.SegmentLemmas.{fold-fold}
use Rattle.arm_expr.specs.Brackets as brackets
use Rattle.bicep_found.specs.Found.{Found, found, both}
use Rattle.bicep_tree.specs.declared.leaf.Access.{Access}
use Rattle.bicep_tree.specs.declared.leaf.Access.TheVariants as access
use Rattle.bicep_tree.specs.declared.leaf.Function.{Function}
use Rattle.bicep_tree.specs.declared.leaf.Indexing.{Indexing}
use Rattle.bicep_tree.specs.declared.leaf.Indexing.TheVariants as indexing
use Rattle.bicep_tree.specs.declared.leaf.LoopNames.{LoopNames}
use Rattle.bicep_tree.specs.declared.leaf.Name.{Name}
use Rattle.bicep_tree.specs.Offset.{function_offset, label_offset}
use Rattle.bicep_tree.specs.Symbol.{label_text}
use Rattle.bicep_tree.specs.Tree.{Tree, Trees, Holes, MemberTrees}
use Rattle.bicep_tree.specs.Tree as tree
use Rattle.bicep_resolved.specs.declared.leaf.Selector.TheVariants as selector
use Rattle.bicep_resolved.specs.declared.leaf.Target.{Target}
use Rattle.bicep_resolved.specs.Place.{reach_offset}
use Rattle.bicep_resolved.specs.Source.{SourceTree, SourceTrees, PieceTrees, PropertyTrees, ReachTree, ValueTree}
use Rattle.bicep_resolved.specs.Source as s
use Rattle.bicep_resolved.specs.Target.{number_of, target_of}
use Rattle.bicep_names.specs.declared.kind.Named.{Named}
use Rattle.bicep_names.specs.declared.kind.Named.TheVariants as named
use Rattle.bicep_names.specs.Functions.{may_call}
use Rattle.bicep_names.specs.Scope.{Scope, Symbols, OutputNames, meaning_of, nested_named}
use Rattle.bicep_names.specs.Resolve.{name_at, reach_in, outputs_in, output_of, output_at, member_by, member_of}
use Rattle.bicep_names.specs.Resolve.{is_outputs, nested_at, nested_within, nested_of, accessed, whole_in}
use Rattle.bicep_names.specs.Resolve.{element_by, element_of, indexed, function_name, called_by, called, field_of}
use Rattle.bicep_names.specs.Resolve.{resolved, resolved_all, resolved_holes, resolved_members}
use Rattle.bicep_names.specs.Resolve.{resolved_value}
use Rattle.bicep_members.specs.Labels.{repeated_label, repeated_index}
use Rattle.bicep_members.specs.Parts.{repeated_in, repeated_in_all, repeated_in_holes}
use Rattle.bicep_members.specs.Parts.{repeated_in_members, repeated_in_value, repeated_in_loop}
use Rattle.bicep_misplaced.specs.declared.spot.Spot.{Spot}
use Rattle.bicep_misplaced.specs.declared.spot.Spot.TheVariants as spot
use Rattle.bicep_misplaced.specs.Words.{is_bad_name, is_copy}
use Rattle.bicep_misplaced.specs.Expressions.{inner, bad_label, each_at, bad_in, bad_in_all, bad_in_holes}
use Rattle.bicep_misplaced.specs.Expressions.{bad_in_members, bad_in_member, bad_in_value}
use Rattle.bicep_misplaced.specs.Files.{bad_in_whole}
use Rattle.emitted_trees.specs.Emittable.{IsEmittable, AreEmittable, AreHoles, AreMembers, IsValue, IsReach}
use Rattle.emitted_trees.proofs.SpelledLemmas.{same_called_by_files}
use Rattle.emitted_trees.specs.EmittedTrees.{has_copy}
use Rattle.emitted_trees.specs.Sound.{Loops, allowed, not_allowed, names, Differ, IsSound, AreSound, AreSoundMembers, IsSoundValue}
use Rattle.sound_values.specs.FewHoles.{HasFewHoles, AllHaveFew, HolesHaveFew, MembersHaveFew, ValueHasFew}
use Rattle.sound_values.proofs.FoundLemmas.{of_mapped, of_then, of_both, first_none, second_none}
use Rattle.sound_values.proofs.FoundLemmas.{same_found}
use Rattle.sound_values.proofs.NameLemmas.{property_names, names_differ, not_copy}

-- ---- what is shown

-- a resource or a module that is used by an element of its loop: the index can be emitted
abbrev pub ReachIsGood : SourceTree → Type 0
ReachIsGood (s.instance r) = IsReach r
ReachIsGood x = Unit {0}

pub record Good (x : SourceTree) : Type 0 where
  pub emittable : IsEmittable x
  pub reach : ReachIsGood x
  pub sound : (m : Loops) → IsSound m x

pub record AllGood (xs : SourceTrees) : Type 0 where
  pub emittable : AreEmittable xs
  pub sound : (m : Loops) → AreSound m xs

pub record GoodMembers (ps : PropertyTrees) : Type 0 where
  pub emittable : AreMembers ps
  pub sound : (m : Loops) → AreSoundMembers m ps

pub record GoodValue (v : ValueTree) : Type 0 where
  pub emittable : IsValue v
  pub sound : (m : Loops) → IsSoundValue m v

-- where no for-expression may be
abbrev pub IsStrict : Spot → Type 0
IsStrict spot.Outside = Unit {0}
IsStrict spot.Field = ⊥
IsStrict spot.Inside = Unit {0}

strict_inside : (sp : Spot) → IsStrict (inner sp)
strict_inside spot.Outside = tt
strict_inside spot.Field = tt
strict_inside spot.Inside = tt

-- ---- names

good_name : (at : ℕ) (o : Option Named) (x : SourceTree) → name_at at o ≡ found x → Good x
good_name at None x e = absurd cc
good_name at (Some (named.Value y)) x e =
    subst Good (same_found (s.name at y) x e) (record { emittable = tt; reach = tt; sound = λ m. tt })
good_name at (Some (named.Instance y)) x e =
    subst Good (same_found (s.instance (s.symbol at y)) x e) (record { emittable = tt; reach = tt; sound = λ m. tt })

-- ---- fields, outputs and members

good_field : (r : ReachTree) (at : ℕ) (os : List OutputNames) (n : Name) → IsReach r
    → Good (s.field r at (field_of (target_of r) n.text))
good_field r at os n h = record { emittable = h; reach = tt; sound = λ m. h }

good_output : (r : ReachTree) (at : ℕ) (o : Option ℕ) (x : SourceTree) → IsReach r → output_at r at o ≡ found x → Good x
good_output r at None x h e = absurd cc
good_output r at (Some k) x h e =
    subst Good (same_found (s.output r at k) x e) (record { emittable = h; reach = tt; sound = λ m. h })

-- what an expression is made a part of
record IsPart (y x : SourceTree) : Type 0 where
  few : HasFewHoles x → HasFewHoles y
  good : Good y → Good x

module _ (os : List OutputNames) (n : Name) where
  member_part : (y x : SourceTree) → found (s.member y selector.Plain n) ≡ found x → IsPart y x
  member_part y x e =
      subst (IsPart y) (same_found (s.member y selector.Plain n) x e)
      (record {
        few = λ h. h;
        good = λ g. record { emittable = g.emittable; reach = tt; sound = λ m. g.emittable };
      })

  outputs_part : (r : ReachTree) (at : ℕ) (f : _) (b : Bool) (x : SourceTree)
      → member_by os None (if b then Some r else None) (s.field r at f) n ≡ found x → IsPart (s.field r at f) x
  outputs_part r at f true x e = output_part (output_of os (target_of r) n.text) e
    where
      output_part : (o : Option ℕ) → output_at r n.at o ≡ found x → IsPart (s.field r at f) x
      output_part None e = absurd cc
      output_part (Some k) e =
          subst (IsPart (s.field r at f)) (same_found (s.output r n.at k) x e)
          (record {
            few = λ h. h;
            good = λ g. record { emittable = g.emittable; reach = tt; sound = λ m. g.emittable };
          })
  outputs_part r at f false x e = member_part (s.field r at f) x e

  -- `x.n`
  named_part : (y x : SourceTree) → member_by os (reach_in y) (outputs_in y) y n ≡ found x → IsPart y x
  named_part (s.name at y) x e = member_part (s.name at y) x e
  named_part (s.literal at v) x e = member_part (s.literal at v) x e
  named_part (s.interpolated at first ps) x e = member_part (s.interpolated at first ps) x e
  named_part (s.object at ps) x e = member_part (s.object at ps) x e
  named_part (s.array at es) x e = member_part (s.array at es) x e
  named_part (s.call at name es) x e = member_part (s.call at name es) x e
  named_part (s.instance r) x e =
      subst (IsPart (s.instance r)) (same_found (s.field r n.at (field_of (target_of r) n.text)) x e)
      (record { few = λ h. h; good = λ g. good_field r n.at os n g.reach })
  named_part (s.field r at f) x e = outputs_part r at f (is_outputs f) x e
  named_part (s.output r at k) x e = member_part (s.output r at k) x e
  named_part (s.member y k m) x e = member_part (s.member y k m) x e
  named_part (s.index y k i) x e = member_part (s.index y k i) x e
  named_part (s.prefixed at p y) x e = member_part (s.prefixed at p y) x e
  named_part (s.binary o y z) x e = member_part (s.binary o y z) x e
  named_part (s.conditional c y z) x e = member_part (s.conditional c y z) x e

  part_of : (y x : SourceTree) → member_of os y n ≡ found x → IsPart y x
  unfolding member_of
  part_of y x e = named_part y x e

-- `x.?n`
safe_good : (y x : SourceTree) (n : Name) → found (s.member y selector.Safe n) ≡ found x → IsPart y x
safe_good y x n e =
    subst (IsPart y) (same_found (s.member y selector.Safe n) x e)
    (record {
      few = λ h. h;
      good = λ g. record { emittable = g.emittable; reach = tt; sound = λ m. g.emittable };
    })

-- `x::n`
nested_by : (at place : ℕ) (o : Option Target) (x : SourceTree) → nested_at at place o ≡ found x → Good x
nested_by at place None x e = absurd cc
nested_by at place (Some t) x e =
    subst Good (same_found (s.instance (s.symbol at t)) x e) (record { emittable = tt; reach = tt; sound = λ m. tt })

nested_in : (ss : Symbols) (o : Option ReachTree) (n : Name) (x : SourceTree) → nested_within ss o n ≡ found x → Good x
nested_in ss None n x e = absurd cc
nested_in ss (Some r) n x e =
    nested_by (reach_offset r) n.at (nested_named ss (number_of (target_of r)) n.text) x e

nested_good : (ss : Symbols) (y x : SourceTree) (n : Name) → nested_of ss y n ≡ found x → Good x
unfolding nested_of
nested_good ss y x n e = nested_in ss (reach_in y) n x e

-- an access: good by itself, or a part of what it is of
data Accessed (y x : SourceTree) : Type 0 where
  alone : Good x → Accessed y x
  part : IsPart y x → Accessed y x

access_is : (sc : Scope) (y x : SourceTree) (k : Access) (n : Name) → accessed sc y k n ≡ found x → Accessed y x
access_is sc y x access.Member n e = part (part_of sc.outputs n y x e)
access_is sc y x access.SafeMember n e = part (safe_good y x n e)
access_is sc y x access.Nested n e = alone (nested_good sc.symbols y x n e)

access_good : (y x : SourceTree) → Accessed y x → HasFewHoles x → (HasFewHoles y → Good y) → Good x
access_good y x (alone g) few f = g
access_good y x (part p) few f = p.good (f (p.few few))

-- ---- elements

plain_element : (y i : SourceTree) (k : Indexing) → HasFewHoles (s.index y k i) → (HasFewHoles y → Good y)
    → (HasFewHoles i → Good i) → Good (s.index y k i)
plain_element y i k few f g =
    let a = (f few.0).emittable in
    let b = (g few.1).emittable in
    record { emittable = (a, b); reach = tt; sound = λ m. (a, b) }

element_good : (o : Option (ℕ × Target)) (y i : SourceTree) → HasFewHoles (element_by o y i)
    → (HasFewHoles y → Good y) → (HasFewHoles i → Good i) → Good (element_by o y i)
element_good None y i few f g = plain_element y i indexing.Plain few f g
element_good (Some p) y i few f g =
    record { emittable = tt; reach = (g few).emittable; sound = λ m. tt }

indexed_good : (y i : SourceTree) (k : Indexing) → HasFewHoles (indexed y k i) → (HasFewHoles y → Good y)
    → (HasFewHoles i → Good i) → Good (indexed y k i)
unfolding element_of
indexed_good y i indexing.Plain few f g = element_good (whole_in y) y i few f g
indexed_good y i indexing.Safe few f g = plain_element y i indexing.Safe few f g

-- ---- calls

record IsCalled (at : ℕ) (es : Found SourceTrees) (x : SourceTree) : Type 0 where
  name : List ℕ
  may : may_call name ≡ true
  arguments : SourceTrees
  are : es ≡ found arguments
  is : s.call at name arguments ≡ x

called_may : (at place : ℕ) (text : List ℕ) (b : Bool) (es : Found SourceTrees) (x : SourceTree) → may_call text ≡ b
    → called_by at place (if b then Some (fold text) else None) es ≡ found x → IsCalled at es x
called_may at place text true es x e h =
    let g = of_mapped (λ xs. s.call at (fold text) xs) es x h in
    record {
      name = fold text;
      may = same_called_by_files (fold text) text (fold-fold text) ∙ e;
      arguments = g.part;
      are = g.is;
      is = g.made;
    }
called_may at place text false es x e h = absurd cc

called_is : (g : Function) (es : Found SourceTrees) (x : SourceTree) → called g es ≡ found x
    → IsCalled (function_offset g) es x
called_is g es x h =
    called_may (function_offset g) (function_name g).at (function_name g).text (may_call (function_name g).text) es x
    refl h

-- ---- members

names_are : (sc : Scope) (ms : MemberTrees) (ls : List LoopNames) (ps : PropertyTrees)
    → resolved_members sc ms ls ≡ found ps → names ps ≡ property_names ms
names_are sc tree.no_member ls ps e = sym (ap names (same_found s.no_property ps e))
names_are sc (tree.and_member (tree.property l v) ms) ls ps e =
    let g = of_mapped (λ p. s.property (label_offset l) (label_text l) p.0 p.1)
    (both (resolved_value sc v ls) (resolved_members sc ms ls)) ps e in
    let h = of_both (resolved_value sc v ls) (resolved_members sc ms ls) g.part g.is in
    sym (ap names g.made) ∙ ap (λ ns. label_text l ∷ ns) (names_are sc ms ls g.part.1 h.second)
names_are sc (tree.and_member (tree.child ds r) ms) ls ps e = names_are sc ms ls ps e

pub members_differ : (sc : Scope) (ms : MemberTrees) (ls : List LoopNames) (ps : PropertyTrees)
    → resolved_members sc ms ls ≡ found ps → repeated_label ms ≡ None → Differ (names ps)
members_differ sc ms ls ps e r = subst Differ (sym (names_are sc ms ls ps e)) (names_differ [] ms r).differ

good_object : (at : ℕ) (ps : PropertyTrees) → Differ (names ps) → GoodMembers ps → Good (s.object at ps)
good_object at ps d g = record {
  emittable = g.emittable;
  reach = tt;
  sound = λ m. ((λ c. g.emittable), (d, g.sound m));
}

-- ---- expressions where no for-expression may be

-- an expression that is no object, no array and no resource
abbrev good_whole : (x : SourceTree) → IsEmittable x → ReachIsGood x → ((m : Loops) → IsSound m x) → Good x
good_whole x e r m = record { emittable = e; reach = r; sound = m }

never_each : (sp : Spot) (at : ℕ) (o : Option ℕ) → IsStrict sp → each_at sp at o ≡ None → ⊥
never_each spot.Outside at o st e = absurd cc
never_each spot.Field at o st e = st
never_each spot.Inside at o st e = absurd cc

module _ (sc : Scope) where
  mutual
    pub good : (sp : Spot) → IsStrict sp → (e : Tree) (ls : List LoopNames) (x : SourceTree) → bad_in sp e ≡ None
        → repeated_in e ≡ None → resolved sc e ls ≡ found x → HasFewHoles x → Good x
    good sp st (tree.name n) ls x b r h few = good_name n.at (meaning_of sc.symbols ls n.text) x h
    good sp st (tree.literal at v) ls x b r h few =
        subst Good (same_found (s.literal at v) x h) (good_whole (s.literal at v) tt tt (λ m. tt))
    good sp st (tree.interpolated at first hs) ls x b r h few =
        let g = of_mapped (λ ps. s.interpolated at first ps) (resolved_holes sc hs ls) x h in
        let f = subst HasFewHoles (sym g.made) few in
        let a = good_holes (inner sp) (strict_inside sp) hs ls g.part b r g.is f.0 in
        subst Good g.made (good_whole (s.interpolated at first g.part) (a, f.1) tt (λ m. (a, f.1)))
    good sp st (tree.object (tree.braces at ms)) ls x b r h few =
        let g = of_mapped (λ ps. s.object at ps) (resolved_members sc ms ls) x h in
        let f = subst HasFewHoles (sym g.made) few in
        subst Good g.made
        (good_object at g.part
        (members_differ sc ms ls g.part g.is (first_none (repeated_label ms) (repeated_in_members ms) r))
        (good_members sp st ms ls g.part b (second_none (repeated_label ms) (repeated_in_members ms) r) g.is f))
    good sp st (tree.array at es) ls x b r h few =
        let g = of_mapped (λ xs. s.array at xs) (resolved_all sc es ls) x h in
        let a = all_good sp st es ls g.part b r g.is (subst HasFewHoles (sym g.made) few) in
        subst Good g.made (good_whole (s.array at g.part) a.emittable tt a.sound)
    good sp st (tree.parentheses at e) ls x b r h few = good (inner sp) (strict_inside sp) e ls x b r h few
    good sp st (tree.call f es) ls x b r h few =
        let g = called_is f (resolved_all sc es ls) x h in
        let a = all_good (inner sp) (strict_inside sp) es ls g.arguments b r g.are
        (subst HasFewHoles (sym g.is) few) in
        subst Good g.is
        (good_whole (s.call (function_offset f) g.name g.arguments) (g.may, a.emittable) tt
        (λ m. (g.may, a.emittable)))
    good sp st (tree.access e k n) ls x b r h few =
        let g = of_then (λ y. accessed sc y k n) (resolved sc e ls) x h in
        access_good g.part x (access_is sc g.part x k n g.made) few
        (λ f. good (inner sp) (strict_inside sp) e ls g.part b r g.is f)
    good sp st (tree.index e k i) ls x b r h few =
        let g = of_mapped (λ p. indexed p.0 k p.1) (both (resolved sc e ls) (resolved sc i ls)) x h in
        let p = of_both (resolved sc e ls) (resolved sc i ls) g.part g.is in
        subst Good g.made
        (indexed_good g.part.0 g.part.1 k (subst HasFewHoles (sym g.made) few)
        (λ f. good (inner sp) (strict_inside sp) e ls g.part.0
        (first_none (bad_in (inner sp) e) (bad_in (inner sp) i) b)
        (first_none (repeated_in e) (repeated_in i) r) p.first f)
        (λ f. good (inner sp) (strict_inside sp) i ls g.part.1
        (second_none (bad_in (inner sp) e) (bad_in (inner sp) i) b)
        (second_none (repeated_in e) (repeated_in i) r) p.second f))
    good sp st (tree.not_null e) ls x b r h few = good (inner sp) (strict_inside sp) e ls x b r h few
    good sp st (tree.prefixed at q e) ls x b r h few =
        let g = of_mapped (λ y. s.prefixed at q y) (resolved sc e ls) x h in
        let a = good (inner sp) (strict_inside sp) e ls g.part b r g.is (subst HasFewHoles (sym g.made) few) in
        subst Good g.made (good_whole (s.prefixed at q g.part) a.emittable tt (λ m. a.emittable))
    good sp st (tree.binary o a c) ls x b r h few =
        let g = of_mapped (λ p. s.binary o p.0 p.1) (both (resolved sc a ls) (resolved sc c ls)) x h in
        let p = of_both (resolved sc a ls) (resolved sc c ls) g.part g.is in
        let f = subst HasFewHoles (sym g.made) few in
        let y = good (inner sp) (strict_inside sp) a ls g.part.0
        (first_none (bad_in (inner sp) a) (bad_in (inner sp) c) b)
        (first_none (repeated_in a) (repeated_in c) r) p.first f.0 in
        let z = good (inner sp) (strict_inside sp) c ls g.part.1
        (second_none (bad_in (inner sp) a) (bad_in (inner sp) c) b)
        (second_none (repeated_in a) (repeated_in c) r) p.second f.1 in
        subst Good g.made
        (good_whole (s.binary o g.part.0 g.part.1) (y.emittable, z.emittable) tt (λ m. (y.emittable, z.emittable)))
    good sp st (tree.conditional c a d) ls x b r h few =
        let g = of_mapped (λ p. s.conditional p.0 p.1.0 p.1.1)
        (both (resolved sc c ls) (both (resolved sc a ls) (resolved sc d ls))) x h in
        let p = of_both (resolved sc c ls) (both (resolved sc a ls) (resolved sc d ls)) g.part g.is in
        let q = of_both (resolved sc a ls) (resolved sc d ls) g.part.1 p.second in
        let f = subst HasFewHoles (sym g.made) few in
        let b2 = second_none (bad_in (inner sp) c) (or_else (bad_in (inner sp) a) (bad_in (inner sp) d)) b in
        let r2 = second_none (repeated_in c) (or_else (repeated_in a) (repeated_in d)) r in
        let u = good (inner sp) (strict_inside sp) c ls g.part.0
        (first_none (bad_in (inner sp) c) (or_else (bad_in (inner sp) a) (bad_in (inner sp) d)) b)
        (first_none (repeated_in c) (or_else (repeated_in a) (repeated_in d)) r) p.first f.0 in
        let y = good (inner sp) (strict_inside sp) a ls g.part.1.0
        (first_none (bad_in (inner sp) a) (bad_in (inner sp) d) b2)
        (first_none (repeated_in a) (repeated_in d) r2) q.first f.1.0 in
        let z = good (inner sp) (strict_inside sp) d ls g.part.1.1
        (second_none (bad_in (inner sp) a) (bad_in (inner sp) d) b2)
        (second_none (repeated_in a) (repeated_in d) r2) q.second f.1.1 in
        subst Good g.made
        (good_whole (s.conditional g.part.0 g.part.1.0 g.part.1.1) (u.emittable, (y.emittable, z.emittable)) tt
        (λ m. (u.emittable, (y.emittable, z.emittable))))

    all_good : (sp : Spot) → IsStrict sp → (es : Trees) (ls : List LoopNames) (xs : SourceTrees)
        → bad_in_all sp es ≡ None → repeated_in_all es ≡ None → resolved_all sc es ls ≡ found xs → AllHaveFew xs
        → AllGood xs
    all_good sp st tree.none ls xs b r h few =
        subst AllGood (same_found s.none xs h) (record { emittable = tt; sound = λ m. tt })
    all_good sp st (tree.more e es) ls xs b r h few =
        let g = of_mapped (λ p. s.more p.0 p.1) (both (resolved sc e ls) (resolved_all sc es ls)) xs h in
        let p = of_both (resolved sc e ls) (resolved_all sc es ls) g.part g.is in
        let f = subst AllHaveFew (sym g.made) few in
        let a = good sp st e ls g.part.0 (first_none (bad_in sp e) (bad_in_all sp es) b)
        (first_none (repeated_in e) (repeated_in_all es) r) p.first f.0 in
        let c = all_good sp st es ls g.part.1 (second_none (bad_in sp e) (bad_in_all sp es) b)
        (second_none (repeated_in e) (repeated_in_all es) r) p.second f.1 in
        subst AllGood g.made
        (record { emittable = (a.emittable, c.emittable); sound = λ m. (a.sound m, c.sound m) })

    good_holes : (sp : Spot) → IsStrict sp → (hs : Holes) (ls : List LoopNames) (ps : PieceTrees)
        → bad_in_holes sp hs ≡ None → repeated_in_holes hs ≡ None → resolved_holes sc hs ls ≡ found ps
        → HolesHaveFew ps → AreHoles ps
    good_holes sp st tree.no_hole ls ps b r h few = subst AreHoles (same_found s.no_piece ps h) tt
    good_holes sp st (tree.hole e after hs) ls ps b r h few =
        let g = of_mapped (λ p. s.piece p.0 after p.1) (both (resolved sc e ls) (resolved_holes sc hs ls)) ps h in
        let p = of_both (resolved sc e ls) (resolved_holes sc hs ls) g.part g.is in
        let f = subst HolesHaveFew (sym g.made) few in
        let a = good sp st e ls g.part.0 (first_none (bad_in sp e) (bad_in_holes sp hs) b)
        (first_none (repeated_in e) (repeated_in_holes hs) r) p.first f.0 in
        let c = good_holes sp st hs ls g.part.1 (second_none (bad_in sp e) (bad_in_holes sp hs) b)
        (second_none (repeated_in e) (repeated_in_holes hs) r) p.second f.1 in
        subst AreHoles g.made (a.emittable, c)

    good_members : (sp : Spot) → IsStrict sp → (ms : MemberTrees) (ls : List LoopNames) (ps : PropertyTrees)
        → bad_in_members sp ms ≡ None → repeated_in_members ms ≡ None → resolved_members sc ms ls ≡ found ps
        → MembersHaveFew ps → GoodMembers ps
    good_members sp st tree.no_member ls ps b r h few =
        subst GoodMembers (same_found s.no_property ps h) (record { emittable = tt; sound = λ m. tt })
    good_members sp st (tree.and_member (tree.property l v) ms) ls ps b r h few =
        let g = of_mapped (λ p. s.property (label_offset l) (label_text l) p.0 p.1)
        (both (resolved_value sc v ls) (resolved_members sc ms ls)) ps h in
        let p = of_both (resolved_value sc v ls) (resolved_members sc ms ls) g.part g.is in
        let f = subst MembersHaveFew (sym g.made) few in
        let b1 = first_none (bad_in_member sp (tree.property l v)) (bad_in_members sp ms) b in
        let a = good_value sp st v ls g.part.0 (second_none (bad_label sp l) (bad_in_value sp v) b1)
        (first_none (repeated_in_value v) (repeated_in_members ms) r) p.first f.0 in
        let c = good_members sp st ms ls g.part.1
        (second_none (bad_in_member sp (tree.property l v)) (bad_in_members sp ms) b)
        (second_none (repeated_in_value v) (repeated_in_members ms) r) p.second f.1 in
        subst GoodMembers g.made
        (record { emittable = (a.emittable, c.emittable); sound = λ m. (a.sound m, c.sound m) })
    good_members sp st (tree.and_member (tree.child ds q) ms) ls ps b r h few = absurd cc

    good_value : (sp : Spot) → IsStrict sp → (v : tree.ValueTree) (ls : List LoopNames) (x : ValueTree)
        → bad_in_value sp v ≡ None → repeated_in_value v ≡ None → resolved_value sc v ls ≡ found x → ValueHasFew x
        → GoodValue x
    good_value sp st (tree.plain e) ls x b r h few =
        let g = of_mapped (λ y. s.plain y) (resolved sc e ls) x h in
        let a = good sp st e ls g.part b r g.is (subst ValueHasFew (sym g.made) few) in
        subst GoodValue g.made (record { emittable = a.emittable; sound = a.sound })
    good_value sp st (tree.each (tree.loop at ns xs) e) ls x b r h few =
        absurd (never_each sp at (or_else (bad_in spot.Inside xs) (bad_in spot.Inside e)) st b)

  -- ---- what is inside of loops

  -- what a loop runs over, and its body
  record GoodLoop (sp : Spot) (ns : LoopNames) (xs e : Tree) (ls : List LoopNames) (at : ℕ) (x : ValueTree)
      : Type 0 where
    over : SourceTree
    body : SourceTree
    is : s.each (s.loop at over) body ≡ x
    over_good : Good over
    body_good : Good body

  loop_good : (sp : Spot) → IsStrict sp → (at : ℕ) (ns : LoopNames) (xs e : Tree) (ls : List LoopNames) (x : ValueTree)
      → or_else (bad_in sp xs) (bad_in sp e) ≡ None
      → or_else (repeated_in_loop (tree.loop at ns xs)) (repeated_in e) ≡ None
      → resolved_value sc (tree.each (tree.loop at ns xs) e) ls ≡ found x → ValueHasFew x
      → GoodLoop sp ns xs e ls at x
  loop_good sp st at ns xs e ls x b r h few =
      let g = of_mapped (λ p. s.each (s.loop at p.0) p.1) (both (resolved sc xs ls) (resolved sc e (ns ∷ ls))) x h in
      let p = of_both (resolved sc xs ls) (resolved sc e (ns ∷ ls)) g.part g.is in
      let f = subst ValueHasFew (sym g.made) few in
      let r1 = first_none (or_else (repeated_index ns) (repeated_in xs)) (repeated_in e) r in
      record {
        over = g.part.0;
        body = g.part.1;
        is = g.made;
        over_good =
            good sp st xs ls g.part.0 (first_none (bad_in sp xs) (bad_in sp e) b)
            (second_none (repeated_index ns) (repeated_in xs) r1) p.first f.0;
        body_good =
            good sp st e (ns ∷ ls) g.part.1 (second_none (bad_in sp xs) (bad_in sp e) b)
            (second_none (or_else (repeated_index ns) (repeated_in xs)) (repeated_in e) r) p.second f.1;
      }

  -- the value of a variable or an output
  pub whole_sound : (v : tree.ValueTree) (ls : List LoopNames) (x : ValueTree) → bad_in_whole v ≡ None
      → repeated_in_value v ≡ None → resolved_value sc v ls ≡ found x → ValueHasFew x → IsSoundValue allowed x
  whole_sound (tree.plain e) ls x b r h few =
      let g = of_mapped (λ y. s.plain y) (resolved sc e ls) x h in
      let a = good spot.Outside tt e ls g.part b r g.is (subst ValueHasFew (sym g.made) few) in
      subst (IsSoundValue allowed) g.made (a.sound allowed)
  whole_sound (tree.each (tree.loop at ns xs) e) ls x b r h few =
      let g = loop_good spot.Outside tt at ns xs e ls x b r h few in
      subst (IsSoundValue allowed) g.is (g.over_good.emittable, g.body_good.sound not_allowed)

  -- ---- values of fields

  -- members of an object in a field
  record FieldMembers (ps : PropertyTrees) : Type 0 where
    sound : AreSoundMembers allowed ps
    copies : has_copy ps ≡ false

  label_by : (l : _) (b : Bool) (at : ℕ) → is_bad_name spot.Field (label_text l) ≡ b
      → (if b then Some at else None) ≡ None → is_bad_name spot.Field (label_text l) ≡ false
  label_by l true at e h = absurd cc
  label_by l false at e h = e

  label_is : (l : _) → bad_label spot.Field l ≡ None → brackets.is_copy (label_text l) ≡ false
  label_is l h =
      not_copy (label_text l)
      (or_right (brackets.is_bracketed (label_text l)) (is_copy (label_text l))
      (label_by l (is_bad_name spot.Field (label_text l)) (label_offset l) refl h))

  mutual
    pub field_sound : (e : Tree) (ls : List LoopNames) (x : SourceTree) → bad_in spot.Field e ≡ None
        → repeated_in e ≡ None → resolved sc e ls ≡ found x → HasFewHoles x → IsSound allowed x
    field_sound (tree.name n) ls x b r h few = (good spot.Inside tt (tree.name n) ls x b r h few).sound allowed
    field_sound (tree.literal at v) ls x b r h few =
        (good spot.Inside tt (tree.literal at v) ls x b r h few).sound allowed
    field_sound (tree.interpolated at first hs) ls x b r h few =
        (good spot.Inside tt (tree.interpolated at first hs) ls x b r h few).sound allowed
    field_sound (tree.object (tree.braces at ms)) ls x b r h few =
        let g = of_mapped (λ ps. s.object at ps) (resolved_members sc ms ls) x h in
        let a = field_members ms ls g.part b (second_none (repeated_label ms) (repeated_in_members ms) r) g.is
        (subst HasFewHoles (sym g.made) few) in
        subst (IsSound allowed) g.made (
          (λ c. absurd (true≢false (sym c ∙ a.copies))),
          (
            members_differ sc ms ls g.part g.is (first_none (repeated_label ms) (repeated_in_members ms) r),
            a.sound,
          ),
        )
    field_sound (tree.array at es) ls x b r h few =
        let g = of_mapped (λ xs. s.array at xs) (resolved_all sc es ls) x h in
        subst (IsSound allowed) g.made
        (fields_sound es ls g.part b r g.is (subst HasFewHoles (sym g.made) few))
    field_sound (tree.parentheses at e) ls x b r h few = (good spot.Inside tt e ls x b r h few).sound allowed
    field_sound (tree.call f es) ls x b r h few = (good spot.Inside tt (tree.call f es) ls x b r h few).sound allowed
    field_sound (tree.access e k n) ls x b r h few =
        (good spot.Inside tt (tree.access e k n) ls x b r h few).sound allowed
    field_sound (tree.index e k i) ls x b r h few =
        (good spot.Inside tt (tree.index e k i) ls x b r h few).sound allowed
    field_sound (tree.not_null e) ls x b r h few = (good spot.Inside tt e ls x b r h few).sound allowed
    field_sound (tree.prefixed at q e) ls x b r h few =
        (good spot.Inside tt (tree.prefixed at q e) ls x b r h few).sound allowed
    field_sound (tree.binary o a c) ls x b r h few =
        (good spot.Inside tt (tree.binary o a c) ls x b r h few).sound allowed
    field_sound (tree.conditional c a d) ls x b r h few =
        (good spot.Inside tt (tree.conditional c a d) ls x b r h few).sound allowed

    fields_sound : (es : Trees) (ls : List LoopNames) (xs : SourceTrees) → bad_in_all spot.Field es ≡ None
        → repeated_in_all es ≡ None → resolved_all sc es ls ≡ found xs → AllHaveFew xs → AreSound allowed xs
    fields_sound tree.none ls xs b r h few = subst (AreSound allowed) (same_found s.none xs h) tt
    fields_sound (tree.more e es) ls xs b r h few =
        let g = of_mapped (λ p. s.more p.0 p.1) (both (resolved sc e ls) (resolved_all sc es ls)) xs h in
        let p = of_both (resolved sc e ls) (resolved_all sc es ls) g.part g.is in
        let f = subst AllHaveFew (sym g.made) few in
        subst (AreSound allowed) g.made (
          field_sound e ls g.part.0 (first_none (bad_in spot.Field e) (bad_in_all spot.Field es) b)
              (first_none (repeated_in e) (repeated_in_all es) r) p.first f.0,
          fields_sound es ls g.part.1 (second_none (bad_in spot.Field e) (bad_in_all spot.Field es) b)
              (second_none (repeated_in e) (repeated_in_all es) r) p.second f.1,
        )

    field_members : (ms : MemberTrees) (ls : List LoopNames) (ps : PropertyTrees) → bad_in_members spot.Field ms ≡ None
        → repeated_in_members ms ≡ None → resolved_members sc ms ls ≡ found ps → MembersHaveFew ps → FieldMembers ps
    field_members tree.no_member ls ps b r h few =
        subst FieldMembers (same_found s.no_property ps h) (record { sound = tt; copies = refl })
    field_members (tree.and_member (tree.property l v) ms) ls ps b r h few =
        let g = of_mapped (λ p. s.property (label_offset l) (label_text l) p.0 p.1)
        (both (resolved_value sc v ls) (resolved_members sc ms ls)) ps h in
        let p = of_both (resolved_value sc v ls) (resolved_members sc ms ls) g.part g.is in
        let f = subst MembersHaveFew (sym g.made) few in
        let b1 = first_none (bad_in_member spot.Field (tree.property l v)) (bad_in_members spot.Field ms) b in
        let a = field_value v ls g.part.0 (second_none (bad_label spot.Field l) (bad_in_value spot.Field v) b1)
        (first_none (repeated_in_value v) (repeated_in_members ms) r) p.first f.0 in
        let c = field_members ms ls g.part.1
        (second_none (bad_in_member spot.Field (tree.property l v)) (bad_in_members spot.Field ms) b)
        (second_none (repeated_in_value v) (repeated_in_members ms) r) p.second f.1 in
        subst FieldMembers g.made
        (record {
          sound = (a, c.sound);
          copies =
              nor (brackets.is_copy (label_text l)) (has_copy g.part.1)
              (label_is l (first_none (bad_label spot.Field l) (bad_in_value spot.Field v) b1)) c.copies;
        })
    field_members (tree.and_member (tree.child ds q) ms) ls ps b r h few = absurd cc

    field_value : (v : tree.ValueTree) (ls : List LoopNames) (x : ValueTree) → bad_in_value spot.Field v ≡ None
        → repeated_in_value v ≡ None → resolved_value sc v ls ≡ found x → ValueHasFew x → IsSoundValue allowed x
    field_value (tree.plain e) ls x b r h few =
        let g = of_mapped (λ y. s.plain y) (resolved sc e ls) x h in
        subst (IsSoundValue allowed) g.made
        (field_sound e ls g.part b r g.is (subst ValueHasFew (sym g.made) few))
    field_value (tree.each (tree.loop at ns xs) e) ls x b r h few =
        let g = loop_good spot.Inside tt at ns xs e ls x b r h few in
        subst (IsSoundValue allowed) g.is (g.over_good.emittable, g.body_good.sound not_allowed)
