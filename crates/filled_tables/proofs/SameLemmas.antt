-- Values become the same where expressions do.
use Rattle.std.proofs.Common.{◌≡◌, ℕ, List, ◌∷◌, Option, Some, refl, ◌∙◌}
use Rattle.std.specs.Prelude.{if◌then◌else◌}
use Rattle.bicep_resolved.specs.Source.{SourceTree, SourceTrees, PropertyTrees, ValueTree}
use Rattle.bicep_resolved.specs.Source as s
use Rattle.tree_building.specs.Emitted.{Frame, element}
use Rattle.declared_table.specs.Sight.{Sight}
use Rattle.tree_building.specs.EmittedTrees.{signed, literal_or, copy_index, count_of, has_copy}
use Rattle.tree_building.specs.Templates as t
use Rattle.tree_building.specs.Sight.{expression, tree, items, members, value}
use Rattle.filled_tables.specs.Same.{SameExpressions}

module _ (a b : Sight) (same : SameExpressions a b) where
  expressed : (e : SourceTree) (fs : List Frame) → t.expression (expression a e fs) ≡ t.expression (expression b e fs)
  expressed e fs = λ i. t.expression (same e fs i)

  mutual
    pub tree_same : (e : SourceTree) (fs : List Frame) → tree a e fs ≡ tree b e fs
    tree_same (s.name at x) fs = expressed (s.name at x) fs
    tree_same (s.literal at v) fs = refl
    tree_same (s.interpolated at first ps) fs = expressed (s.interpolated at first ps) fs
    tree_same (s.object at ps) fs =
        let p = members_same ps fs in
        λ i. if has_copy ps then t.expression (same (s.object at ps) fs i) else t.object (p i)
    tree_same (s.array at es) fs = let p = items_same es fs in λ i. t.array (p i)
    tree_same (s.call at name es) fs = expressed (s.call at name es) fs
    tree_same (s.instance r) fs = expressed (s.instance r) fs
    tree_same (s.field r at x) fs = expressed (s.field r at x) fs
    tree_same (s.output r at k) fs = expressed (s.output r at k) fs
    tree_same (s.member e k n) fs = expressed (s.member e k n) fs
    tree_same (s.index e k n) fs = expressed (s.index e k n) fs
    tree_same (s.prefixed at p e) fs = λ i. literal_or (signed p e) (same (s.prefixed at p e) fs i)
    tree_same (s.binary o x y) fs = expressed (s.binary o x y) fs
    tree_same (s.conditional c x y) fs = expressed (s.conditional c x y) fs

    items_same : (es : SourceTrees) (fs : List Frame) → items a es fs ≡ items b es fs
    items_same s.none fs = refl
    items_same (s.more e es) fs =
        let p = tree_same e fs in
        let q = items_same es fs in
        λ i. t.item (p i) (q i)

    pub members_same : (ps : PropertyTrees) (fs : List Frame) → members a ps fs ≡ members b ps fs
    members_same s.no_property fs = refl
    members_same (s.property at name v ps) fs =
        let p = value_same (Some name) v fs in
        let q = members_same ps fs in
        λ i. t.member name (p i) (q i)

    pub value_same : (name : Option (List ℕ)) (v : ValueTree) (fs : List Frame) → value a name v fs ≡ value b name v fs
    value_same name (s.plain e) fs = let p = tree_same e fs in λ i. t.plain (p i)
    value_same name (s.each (s.loop at xs) e) fs =
        let p = same xs fs in
        let q = tree_same e (element (expression a xs fs) (copy_index name) ∷ fs) in
        (λ i. t.each (count_of (p i)) (q i))
        ∙ (λ i. t.each (count_of (expression b xs fs)) (tree b e (element (p i) (copy_index name) ∷ fs)))
