-- Numbers in the expressions of JSON that values become are of 64 bits.
use Rattle.std.proofs.Common.{ℕ, List, ◌∷◌, Option, Some, None, Bool, true, false}
use Rattle.std.specs.Prelude.{if◌then◌else◌}
use Rattle.arm_expr.specs.Print.{HasInts}
use Rattle.arm_expr.specs.Tree.{Tree}
use Rattle.bicep_tree.specs.declared.leaf.Literal.{Literal}
use Rattle.bicep_resolved.specs.Source.{SourceTree, SourceTrees, PropertyTrees, ValueTree}
use Rattle.bicep_resolved.specs.Source as s
use Rattle.bicep_meaning.specs.Files.{SourceFile}
use Rattle.bicep_emission.specs.Emitted.{Frame, Scope, element, emitted}
use Rattle.emitted_declarations.specs.Declared.{through}
use Rattle.emitted_trees.specs.EmittedTrees.{literal_or, signed, copy_index, has_copy, tree_of, items_of, members_of}
use Rattle.emitted_trees.specs.EmittedTrees.{value_of}
use Rattle.emitted_trees.specs.Templates.{TemplateTree}
use Rattle.emitted_trees.specs.Templates as t
use Rattle.emitted_numbers.specs.Trees.{TreeHasInts, ItemsHaveInts, MembersHaveInts, ContentHasInts}
use Rattle.emitted_numbers.specs.Wholes.{HasWholes, HaveWholes, MembersHaveWholes, ValueHasWholes, FileHasWholes}
use Rattle.emitted_numbers.specs.Wholes.{HasFewParts, FramesHaveInts}
use Rattle.emitted_numbers.proofs.IntLemmas.{whole_expression}

index_whole : (name : Option (List ℕ)) → HasInts (copy_index name)
index_whole None = tt
index_whole (Some x) = (tt, tt)

literal_whole : (o : Option Literal) (e : Tree) → HasInts e → TreeHasInts (literal_or o e)
literal_whole (Some v) e h = tt
literal_whole None e h = h

either_whole : (b : Bool) (x y : TemplateTree) → TreeHasInts x → TreeHasInts y → TreeHasInts (if b then x else y)
either_whole true x y h g = h
either_whole false x y h g = g

module _ (file : SourceFile) (files : List SourceFile) (wholes : FileHasWholes file) (parts : HasFewParts file)
    (k : ℕ) where
  abbrev scope : Scope
  scope = (through file files k).scope

  abbrev expressed : SourceTree → List Frame → Tree
  expressed e fs = emitted file files scope e fs

  expression_whole : (e : SourceTree) (fs : List Frame) → HasWholes e → FramesHaveInts fs → HasInts (expressed e fs)
  expression_whole e fs h g = whole_expression file files wholes parts k e fs h g

  mutual
    pub tree_whole : (e : SourceTree) (fs : List Frame) → HasWholes e → FramesHaveInts fs
        → TreeHasInts (tree_of file files scope e fs)
    tree_whole (s.name at x) fs h g = expression_whole (s.name at x) fs h g
    tree_whole (s.literal at v) fs h g = tt
    tree_whole (s.interpolated at first ps) fs h g = expression_whole (s.interpolated at first ps) fs h g
    tree_whole (s.object at ps) fs h g =
        either_whole (has_copy ps) (t.expression (expressed (s.object at ps) fs))
        (t.object (members_of file files scope ps fs)) (expression_whole (s.object at ps) fs h g)
        (members_whole ps fs h g)
    tree_whole (s.array at es) fs h g = items_whole es fs h g
    tree_whole (s.call at name es) fs h g = expression_whole (s.call at name es) fs h g
    tree_whole (s.instance r) fs h g = expression_whole (s.instance r) fs h g
    tree_whole (s.field r at x) fs h g = expression_whole (s.field r at x) fs h g
    tree_whole (s.output r at n) fs h g = expression_whole (s.output r at n) fs h g
    tree_whole (s.member e q n) fs h g = expression_whole (s.member e q n) fs h g
    tree_whole (s.index e q i) fs h g = expression_whole (s.index e q i) fs h g
    tree_whole (s.prefixed at p e) fs h g =
        literal_whole (signed p e) (expressed (s.prefixed at p e) fs) (expression_whole (s.prefixed at p e) fs h g)
    tree_whole (s.binary o x y) fs h g = expression_whole (s.binary o x y) fs h g
    tree_whole (s.conditional c x y) fs h g = expression_whole (s.conditional c x y) fs h g

    items_whole : (es : SourceTrees) (fs : List Frame) → HaveWholes es → FramesHaveInts fs
        → ItemsHaveInts (items_of file files scope es fs)
    items_whole s.none fs h g = tt
    items_whole (s.more e es) fs h g = (tree_whole e fs h.0 g, items_whole es fs h.1 g)

    pub members_whole : (ps : PropertyTrees) (fs : List Frame) → MembersHaveWholes ps → FramesHaveInts fs
        → MembersHaveInts (members_of file files scope ps fs)
    members_whole s.no_property fs h g = tt
    members_whole (s.property at name v ps) fs h g =
        (value_whole (Some name) v fs h.0 g, members_whole ps fs h.1 g)

    pub value_whole : (name : Option (List ℕ)) (v : ValueTree) (fs : List Frame) → ValueHasWholes v
        → FramesHaveInts fs → ContentHasInts (value_of file files scope name v fs)
    value_whole name (s.plain e) fs h g = tree_whole e fs h g
    value_whole name (s.each (s.loop at xs) e) fs h g =
        let over = expression_whole xs fs h.0 g in
        let index = index_whole name in
        ((over, tt), tree_whole e (element (expressed xs fs) (copy_index name) ∷ fs) h.1 (((over, index), index), g))
