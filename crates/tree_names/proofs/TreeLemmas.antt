-- The trees that values become have names of the grammar.
use Rattle.std.proofs.Common.{ℕ, Bool, true, false, List, ◌∷◌, Option, Some, None, refl, codes}
use Rattle.std.specs.Prelude.{if◌then◌else◌}
use Rattle.arm_expr.specs.Print.{HasNames}
use Rattle.arm_expr.specs.Tree.{Tree}
use Rattle.bicep_tree.specs.declared.leaf.Literal.{Literal}
use Rattle.bicep_resolved.specs.Source.{SourceTree, SourceTrees, PropertyTrees, ValueTree}
use Rattle.bicep_resolved.specs.Source as s
use Rattle.bicep_meaning.specs.Files.{SourceFile}
use Rattle.bicep_emission.specs.Emitted.{Frame, Scope, emitted, element}
use Rattle.emitted_declarations.specs.Declared.{through}
use Rattle.emitted_trees.specs.EmittedTrees.{signed, literal_or, copy_index, has_copy, tree_of, items_of, members_of}
use Rattle.emitted_trees.specs.EmittedTrees.{value_of}
use Rattle.emitted_trees.specs.Templates.{TemplateTree}
use Rattle.emitted_trees.specs.Templates as t
use Rattle.emitted_names.specs.Words.{HasWords, FileHasWords, FramesHaveNames, OutputsAreNames}
use Rattle.emitted_names.proofs.GivenLemmas.{name_is}
use Rattle.emitted_names.proofs.NameLemmas.{named}
use Rattle.tree_names.specs.Names.{TreeHasNames, ItemsHaveNames, MembersHaveNames, ContentHasNames}
use Rattle.tree_names.specs.Words.{HasAllWords, HaveAllWords, MembersHaveAllWords, ValueHasAllWords}

index_named : (name : Option (List ℕ)) → HasNames (copy_index name)
index_named None = (name_is (codes "copyIndex") refl, tt)
index_named (Some x) = (name_is (codes "copyIndex") refl, (tt, tt))

literal_named : (o : Option Literal) (e : Tree) → HasNames e → TreeHasNames (literal_or o e)
literal_named (Some v) e h = tt
literal_named None e h = h

either_named : (b : Bool) (x y : TemplateTree) → TreeHasNames x → TreeHasNames y → TreeHasNames (if b then x else y)
either_named true x y g h = g
either_named false x y g h = h

module _ (file : SourceFile) (files : List SourceFile) (words : FileHasWords file) (outputs : OutputsAreNames files)
    (k : ℕ) where
  abbrev scope : Scope
  scope = (through file files k).scope

  abbrev expressed : SourceTree → List Frame → Tree
  expressed e fs = emitted file files scope e fs

  expression_named : (e : SourceTree) (fs : List Frame) → HasWords e → FramesHaveNames fs → HasNames (expressed e fs)
  expression_named e fs h g = named file files words outputs k e fs h g

  mutual
    pub tree_named : (e : SourceTree) (fs : List Frame) → HasAllWords e → FramesHaveNames fs
        → TreeHasNames (tree_of file files scope e fs)
    tree_named (s.name at x) fs h g = expression_named (s.name at x) fs h g
    tree_named (s.literal at v) fs h g = tt
    tree_named (s.interpolated at first ps) fs h g = expression_named (s.interpolated at first ps) fs h g
    tree_named (s.object at ps) fs h g =
        either_named (has_copy ps) (t.expression (expressed (s.object at ps) fs))
        (t.object (members_of file files scope ps fs)) (expression_named (s.object at ps) fs h.0 g)
        (members_named ps fs h.1 g)
    tree_named (s.array at es) fs h g = items_named es fs h g
    tree_named (s.call at name es) fs h g = expression_named (s.call at name es) fs h g
    tree_named (s.instance r) fs h g = expression_named (s.instance r) fs h g
    tree_named (s.field r at x) fs h g = expression_named (s.field r at x) fs h g
    tree_named (s.output r at n) fs h g = expression_named (s.output r at n) fs h g
    tree_named (s.member e q n) fs h g = expression_named (s.member e q n) fs h g
    tree_named (s.index e q i) fs h g = expression_named (s.index e q i) fs h g
    tree_named (s.prefixed at p e) fs h g =
        literal_named (signed p e) (expressed (s.prefixed at p e) fs) (expression_named (s.prefixed at p e) fs h g)
    tree_named (s.binary o x y) fs h g = expression_named (s.binary o x y) fs h g
    tree_named (s.conditional c x y) fs h g = expression_named (s.conditional c x y) fs h g

    items_named : (es : SourceTrees) (fs : List Frame) → HaveAllWords es → FramesHaveNames fs
        → ItemsHaveNames (items_of file files scope es fs)
    items_named s.none fs h g = tt
    items_named (s.more e es) fs h g = (tree_named e fs h.0 g, items_named es fs h.1 g)

    pub members_named : (ps : PropertyTrees) (fs : List Frame) → MembersHaveAllWords ps → FramesHaveNames fs
        → MembersHaveNames (members_of file files scope ps fs)
    members_named s.no_property fs h g = tt
    members_named (s.property at name v ps) fs h g =
        (value_named (Some name) v fs h.0 g, members_named ps fs h.1 g)

    pub value_named : (name : Option (List ℕ)) (v : ValueTree) (fs : List Frame) → ValueHasAllWords v
        → FramesHaveNames fs → ContentHasNames (value_of file files scope name v fs)
    value_named name (s.plain e) fs h g = tree_named e fs h g
    value_named name (s.each (s.loop at xs) e) fs h g =
        let over = expression_named xs fs h.0 g in
        let index = index_named name in (
          (name_is (codes "length") refl, (over, tt)),
          tree_named e (element (expressed xs fs) (copy_index name) ∷ fs) h.1 (((over, index), index), g),
        )
