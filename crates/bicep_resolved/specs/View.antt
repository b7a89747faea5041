-- The tree that a value of the code represents.
use Rattle.std.specs.Prelude.{ℕ, List, [], ◌∷◌, chars}
use Rattle.arm_value.specs.Look.{fold}
use Rattle.arm_functions.specs.declared.table.Row.{Row}
use Rattle.bicep_resolved.specs.declared.source.Piece.{Piece, fold-Piece}
use Rattle.bicep_resolved.specs.declared.source.Property.{Property, fold-Property}
use Rattle.bicep_resolved.specs.declared.source.Reach.{Reach, fold-Reach}
use Rattle.bicep_resolved.specs.declared.source.Source.{Source, fold-Source}
use Rattle.bicep_resolved.specs.declared.source.SourceLoop.{SourceLoop, fold-SourceLoop}
use Rattle.bicep_resolved.specs.declared.source.SourceValue.{SourceValue, fold-SourceValue}
use Rattle.bicep_resolved.specs.declared.source.Reach.TheOpen.{Piece-F, Property-F, Reach-F, Source-F, SourceLoop-F}
use Rattle.bicep_resolved.specs.declared.source.Reach.TheOpen.{SourceValue-F}
use Rattle.bicep_resolved.specs.Source.{SourceTree, SourceTrees, PieceTrees, ReachTree, PropertyTrees, ValueTree}
use Rattle.bicep_resolved.specs.Source.{LoopTree, none, more, no_piece, piece, no_property, property}
use Rattle.bicep_resolved.specs.Source as s

-- lists as trees have them
abbrev pub sources : List SourceTree → SourceTrees
sources [] = none
sources (e ∷ es) = more e (sources es)

-- a hole's value, and the characters after it
abbrev pub PieceTree : Type 0
PieceTree = SourceTree × List ℕ

abbrev pub pieces : List PieceTree → PieceTrees
pieces [] = no_piece
pieces (p ∷ ps) = piece p.0 p.1 (pieces ps)

-- the offset of a member's name, its name, and its value
abbrev pub PropertyTree : Type 0
PropertyTree = ℕ × List ℕ × ValueTree

abbrev pub properties : List PropertyTree → PropertyTrees
properties [] = no_property
properties (p ∷ ps) = property p.0 p.1 p.2 (properties ps)

-- the name of a function in small letters
abbrev pub row_name : Row → List ℕ
row_name r = fold (chars r.name.now)

-- one layer of each type, where the parts are trees
abbrev pub reach_layer : Reach-F ReachTree SourceTree ValueTree PieceTree PropertyTree LoopTree → ReachTree
reach_layer (Reach-F.Symbol at t) = s.symbol at t
reach_layer (Reach-F.Element at t e) = s.element at t e.value

abbrev pub source_layer : Source-F ReachTree SourceTree ValueTree PieceTree PropertyTree LoopTree → SourceTree
source_layer (Source-F.Name at x) = s.name at x
source_layer (Source-F.Literal at v) = s.literal at v
source_layer (Source-F.Interpolated at first ps) = s.interpolated at first (pieces ps.items)
source_layer (Source-F.Object at ps) = s.object at (properties ps.items)
source_layer (Source-F.Array at es) = s.array at (sources es.items)
source_layer (Source-F.Call at r es) = s.call at (row_name r) (sources es.items)
source_layer (Source-F.Instance r) = s.instance r
source_layer (Source-F.Field r at f) = s.field r at f
source_layer (Source-F.Output r at k) = s.output r at k
source_layer (Source-F.Member e k n) = s.member e.value k n
source_layer (Source-F.Index e k i) = s.index e.value k i.value
source_layer (Source-F.Prefix at p e) = s.prefixed at p e.value
source_layer (Source-F.Binary o a b) = s.binary o a.value b.value
source_layer (Source-F.Conditional c a b) = s.conditional c.value a.value b.value

abbrev pub value_layer : SourceValue-F ReachTree SourceTree ValueTree PieceTree PropertyTree LoopTree → ValueTree
value_layer (SourceValue-F.Plain e) = s.plain e
value_layer (SourceValue-F.Each l e) = s.each l e

abbrev pub piece_layer : Piece-F ReachTree SourceTree ValueTree PieceTree PropertyTree LoopTree → PieceTree
piece_layer x = (x.value, x.after)

abbrev pub property_layer : Property-F ReachTree SourceTree ValueTree PieceTree PropertyTree LoopTree → PropertyTree
property_layer x = (x.at, x.name, x.value)

abbrev pub loop_layer : SourceLoop-F ReachTree SourceTree ValueTree PieceTree PropertyTree LoopTree → LoopTree
loop_layer x = s.loop x.at x.over

unfoldable pub source_of : Source → SourceTree
source_of = fold-Source ReachTree SourceTree ValueTree PieceTree PropertyTree LoopTree
    reach_layer source_layer value_layer piece_layer property_layer loop_layer

unfoldable pub reach_of : Reach → ReachTree
reach_of = fold-Reach ReachTree SourceTree ValueTree PieceTree PropertyTree LoopTree
    reach_layer source_layer value_layer piece_layer property_layer loop_layer

unfoldable pub value_of : SourceValue → ValueTree
value_of = fold-SourceValue ReachTree SourceTree ValueTree PieceTree PropertyTree LoopTree
    reach_layer source_layer value_layer piece_layer property_layer loop_layer

unfoldable pub piece_of : Piece → PieceTree
piece_of = fold-Piece ReachTree SourceTree ValueTree PieceTree PropertyTree LoopTree
    reach_layer source_layer value_layer piece_layer property_layer loop_layer

unfoldable pub property_of : Property → PropertyTree
property_of = fold-Property ReachTree SourceTree ValueTree PieceTree PropertyTree LoopTree
    reach_layer source_layer value_layer piece_layer property_layer loop_layer

unfoldable pub loop_of : SourceLoop → LoopTree
loop_of = fold-SourceLoop ReachTree SourceTree ValueTree PieceTree PropertyTree LoopTree
    reach_layer source_layer value_layer piece_layer property_layer loop_layer
