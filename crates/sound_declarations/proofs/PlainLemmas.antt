-- A value of a field without a for-expression has nothing that may not be inside an expression.
use Rattle.std.proofs.Common.{◌≡◌, List, ◌∷◌, Option, Some, None, refl, ap, ◌∙◌}
use Rattle.foundation.specs.Options.{or_else}
use Rattle.bicep_found.specs.Found.{found, both}
use Rattle.bicep_tree.specs.declared.leaf.LoopNames.{LoopNames}
use Rattle.bicep_tree.specs.Offset.{label_offset}
use Rattle.bicep_tree.specs.Symbol.{label_text}
use Rattle.bicep_tree.specs.Tree.{Tree, Trees, MemberTrees}
use Rattle.bicep_tree.specs.Tree as tree
use Rattle.bicep_resolved.specs.Source.{SourceTree, SourceTrees, PropertyTrees, ValueTree}
use Rattle.bicep_resolved.specs.Source as s
use Rattle.bicep_names.specs.Scope.{Scope}
use Rattle.bicep_names.specs.Resolve.{resolved, resolved_all, resolved_members, resolved_value}
use Rattle.bicep_misplaced.specs.declared.spot.Spot.TheVariants as spot
use Rattle.bicep_misplaced.specs.Expressions.{bad_label, bad_in, bad_in_all, bad_in_members, bad_in_member}
use Rattle.bicep_misplaced.specs.Expressions.{bad_in_value}
use Rattle.bicep_placed.specs.Loops.{loop_in, loop_in_all, loop_in_members, loop_in_value}
use Rattle.sound_values.proofs.FoundLemmas.{of_mapped, of_both, first_none, second_none}

pub neither : {A : Type 0} (a b : Option A) → a ≡ None → b ≡ None → or_else a b ≡ None
neither None b e h = h
neither (Some x) b e h = absurd cc

module _ (sc : Scope) where
  mutual
    pub inside_plain : (e : Tree) (ls : List LoopNames) (x : SourceTree) → bad_in spot.Field e ≡ None
        → resolved sc e ls ≡ found x → loop_in x ≡ None → bad_in spot.Inside e ≡ None
    inside_plain (tree.name n) ls x b h none = b
    inside_plain (tree.literal at v) ls x b h none = b
    inside_plain (tree.interpolated at first hs) ls x b h none = b
    inside_plain (tree.object (tree.braces at ms)) ls x b h none =
        let g = of_mapped (λ ps. s.object at ps) (resolved_members sc ms ls) x h in
        members_plain ms ls g.part b g.is (ap loop_in g.made ∙ none)
    inside_plain (tree.array at es) ls x b h none =
        let g = of_mapped (λ xs. s.array at xs) (resolved_all sc es ls) x h in
        all_plain es ls g.part b g.is (ap loop_in g.made ∙ none)
    inside_plain (tree.parentheses at e) ls x b h none = b
    inside_plain (tree.call f es) ls x b h none = b
    inside_plain (tree.access e k n) ls x b h none = b
    inside_plain (tree.index e k i) ls x b h none = b
    inside_plain (tree.not_null e) ls x b h none = b
    inside_plain (tree.prefixed at p e) ls x b h none = b
    inside_plain (tree.binary o a c) ls x b h none = b
    inside_plain (tree.conditional c a d) ls x b h none = b

    all_plain : (es : Trees) (ls : List LoopNames) (xs : SourceTrees) → bad_in_all spot.Field es ≡ None
        → resolved_all sc es ls ≡ found xs → loop_in_all xs ≡ None → bad_in_all spot.Inside es ≡ None
    all_plain tree.none ls xs b h none = refl
    all_plain (tree.more e es) ls xs b h none =
        let g = of_mapped (λ p. s.more p.0 p.1) (both (resolved sc e ls) (resolved_all sc es ls)) xs h in
        let p = of_both (resolved sc e ls) (resolved_all sc es ls) g.part g.is in
        let n = ap loop_in_all g.made ∙ none in
        neither (bad_in spot.Inside e) (bad_in_all spot.Inside es)
        (inside_plain e ls g.part.0 (first_none (bad_in spot.Field e) (bad_in_all spot.Field es) b) p.first
        (first_none (loop_in g.part.0) (loop_in_all g.part.1) n))
        (all_plain es ls g.part.1 (second_none (bad_in spot.Field e) (bad_in_all spot.Field es) b) p.second
        (second_none (loop_in g.part.0) (loop_in_all g.part.1) n))

    members_plain : (ms : MemberTrees) (ls : List LoopNames) (ps : PropertyTrees)
        → bad_in_members spot.Field ms ≡ None → resolved_members sc ms ls ≡ found ps → loop_in_members ps ≡ None
        → bad_in_members spot.Inside ms ≡ None
    members_plain tree.no_member ls ps b h none = refl
    members_plain (tree.and_member (tree.property l v) ms) ls ps b h none =
        let g = of_mapped (λ p. s.property (label_offset l) (label_text l) p.0 p.1)
        (both (resolved_value sc v ls) (resolved_members sc ms ls)) ps h in
        let p = of_both (resolved_value sc v ls) (resolved_members sc ms ls) g.part g.is in
        let n = ap loop_in_members g.made ∙ none in
        let m = first_none (bad_in_member spot.Field (tree.property l v)) (bad_in_members spot.Field ms) b in
        neither (bad_in_member spot.Inside (tree.property l v)) (bad_in_members spot.Inside ms)
        (neither (bad_label spot.Inside l) (bad_in_value spot.Inside v)
        (first_none (bad_label spot.Field l) (bad_in_value spot.Field v) m)
        (value_plain v ls g.part.0 (second_none (bad_label spot.Field l) (bad_in_value spot.Field v) m) p.first
        (first_none (loop_in_value g.part.0) (loop_in_members g.part.1) n)))
        (members_plain ms ls g.part.1
        (second_none (bad_in_member spot.Field (tree.property l v)) (bad_in_members spot.Field ms) b) p.second
        (second_none (loop_in_value g.part.0) (loop_in_members g.part.1) n))
    members_plain (tree.and_member (tree.child ds r) ms) ls ps b h none = absurd cc

    value_plain : (v : tree.ValueTree) (ls : List LoopNames) (x : ValueTree) → bad_in_value spot.Field v ≡ None
        → resolved_value sc v ls ≡ found x → loop_in_value x ≡ None → bad_in_value spot.Inside v ≡ None
    value_plain (tree.plain e) ls x b h none =
        let g = of_mapped (λ y. s.plain y) (resolved sc e ls) x h in
        inside_plain e ls g.part b g.is (ap loop_in_value g.made ∙ none)
    value_plain (tree.each (tree.loop at ns xs) e) ls x b h none =
        let g = of_mapped (λ p. s.each (s.loop at p.0) p.1) (both (resolved sc xs ls) (resolved sc e (ns ∷ ls))) x h in
        let own : loop_in_value (s.each (s.loop at g.part.0) g.part.1) ≡ None = ap loop_in_value g.made ∙ none in
        absurd cc
