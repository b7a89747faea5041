-- What the views of trees are, variant by variant.
use Rattle.std.proofs.Common.{◌≡◌, ℕ, List, map, ap, sym, ◌∙◌}
use Rattle.std.specs.declared.vec.Vec.{Vec}
use Rattle.std.specs.declared.boxed.Box.{Box}
use Rattle.std.specs.declared.alloc.Global.{Global}
use Rattle.arm_functions.specs.declared.table.Row.{Row}
use Rattle.bicep_tree.specs.declared.leaf.Indexing.{Indexing}
use Rattle.bicep_tree.specs.declared.leaf.Literal.{Literal}
use Rattle.bicep_tree.specs.declared.leaf.Name.{Name}
use Rattle.bicep_tree.specs.declared.leaf.Operator.{Operator}
use Rattle.bicep_tree.specs.declared.leaf.Prefix.{Prefix}
use Rattle.bicep_resolved.specs.declared.leaf.Field.{Field}
use Rattle.bicep_resolved.specs.declared.leaf.Meaning.{Meaning}
use Rattle.bicep_resolved.specs.declared.leaf.Selector.{Selector}
use Rattle.bicep_resolved.specs.declared.leaf.Target.{Target}
use Rattle.bicep_resolved.specs.declared.source.Piece.{Piece, fold-Piece, fold-roll-Piece}
use Rattle.bicep_resolved.specs.declared.source.Property.{Property, fold-Property, fold-roll-Property}
use Rattle.bicep_resolved.specs.declared.source.Reach.{Reach, fold-Reach, fold-roll-Reach}
use Rattle.bicep_resolved.specs.declared.source.Source.{Source, fold-Source, fold-roll-Source}
use Rattle.bicep_resolved.specs.declared.source.SourceLoop.{SourceLoop, fold-SourceLoop, fold-roll-SourceLoop}
use Rattle.bicep_resolved.specs.declared.source.SourceValue.{SourceValue, fold-SourceValue, fold-roll-SourceValue}
use Rattle.bicep_resolved.specs.declared.source.Reach.TheViews as views
use Rattle.bicep_resolved.specs.declared.source.Reach.TheOpen.{Piece-F, Property-F, Reach-F, Source-F, SourceLoop-F}
use Rattle.bicep_resolved.specs.declared.source.Reach.TheOpen.{SourceValue-F}
use Rattle.bicep_resolved.specs.declared.source.Reach.TheVariants as r
use Rattle.bicep_resolved.specs.declared.source.Source.TheVariants as e
use Rattle.bicep_resolved.specs.declared.source.SourceValue.TheVariants as v
use Rattle.bicep_resolved.specs.Source.{SourceTree, ReachTree, ValueTree, LoopTree}
use Rattle.bicep_resolved.specs.Source as s
use Rattle.bicep_resolved.specs.View.{PieceTree, PropertyTree, sources, pieces, properties, reach_layer, source_layer}
use Rattle.bicep_resolved.specs.View.{value_layer, piece_layer, property_layer, loop_layer, source_of, reach_of}
use Rattle.bicep_resolved.specs.View.{value_of, piece_of, property_of, loop_of, row_name}

pub source_of-Name : (at : ℕ) (x : Meaning)
    → source_of (e.Name at x) ≡ s.name at x
unfolding source_of reach_of value_of piece_of property_of loop_of
source_of-Name at x =
    ap (fold-Source ReachTree SourceTree ValueTree PieceTree PropertyTree LoopTree
    reach_layer source_layer value_layer piece_layer property_layer loop_layer)
    (sym (e.rolls-Name at x))
    ∙ fold-roll-Source ReachTree SourceTree ValueTree PieceTree PropertyTree LoopTree
    reach_layer source_layer value_layer piece_layer property_layer loop_layer
    (Source-F.Name at x)

pub source_of-Literal : (at : ℕ) (x : Literal)
    → source_of (e.Literal at x) ≡ s.literal at x
unfolding source_of reach_of value_of piece_of property_of loop_of
source_of-Literal at x =
    ap (fold-Source ReachTree SourceTree ValueTree PieceTree PropertyTree LoopTree
    reach_layer source_layer value_layer piece_layer property_layer loop_layer)
    (sym (e.rolls-Literal at x))
    ∙ fold-roll-Source ReachTree SourceTree ValueTree PieceTree PropertyTree LoopTree
    reach_layer source_layer value_layer piece_layer property_layer loop_layer
    (Source-F.Literal at x)

pub source_of-Interpolated : (at : ℕ) (first : List ℕ) (ps : Vec Piece Global)
    → source_of (e.Interpolated at first ps) ≡ s.interpolated at first (pieces (map piece_of ps.items))
unfolding source_of reach_of value_of piece_of property_of loop_of
source_of-Interpolated at first ps =
    ap (fold-Source ReachTree SourceTree ValueTree PieceTree PropertyTree LoopTree
    reach_layer source_layer value_layer piece_layer property_layer loop_layer)
    (sym (e.rolls-Interpolated at first ps))
    ∙ fold-roll-Source ReachTree SourceTree ValueTree PieceTree PropertyTree LoopTree
    reach_layer source_layer value_layer piece_layer property_layer loop_layer
    (Source-F.Interpolated at first ps)

pub source_of-Object : (at : ℕ) (ps : Vec Property Global)
    → source_of (e.Object at ps) ≡ s.object at (properties (map property_of ps.items))
unfolding source_of reach_of value_of piece_of property_of loop_of
source_of-Object at ps =
    ap (fold-Source ReachTree SourceTree ValueTree PieceTree PropertyTree LoopTree
    reach_layer source_layer value_layer piece_layer property_layer loop_layer)
    (sym (e.rolls-Object at ps))
    ∙ fold-roll-Source ReachTree SourceTree ValueTree PieceTree PropertyTree LoopTree
    reach_layer source_layer value_layer piece_layer property_layer loop_layer
    (Source-F.Object at ps)

pub source_of-Array : (at : ℕ) (xs : Vec Source Global)
    → source_of (e.Array at xs) ≡ s.array at (sources (map source_of xs.items))
unfolding source_of reach_of value_of piece_of property_of loop_of
source_of-Array at xs =
    ap (fold-Source ReachTree SourceTree ValueTree PieceTree PropertyTree LoopTree
    reach_layer source_layer value_layer piece_layer property_layer loop_layer)
    (sym (e.rolls-Array at xs))
    ∙ fold-roll-Source ReachTree SourceTree ValueTree PieceTree PropertyTree LoopTree
    reach_layer source_layer value_layer piece_layer property_layer loop_layer
    (Source-F.Array at xs)

pub source_of-Call : (at : ℕ) (f : Row) (xs : Vec Source Global)
    → source_of (e.Call at f xs) ≡ s.call at (row_name f) (sources (map source_of xs.items))
unfolding source_of reach_of value_of piece_of property_of loop_of
source_of-Call at f xs =
    ap (fold-Source ReachTree SourceTree ValueTree PieceTree PropertyTree LoopTree
    reach_layer source_layer value_layer piece_layer property_layer loop_layer)
    (sym (e.rolls-Call at f xs))
    ∙ fold-roll-Source ReachTree SourceTree ValueTree PieceTree PropertyTree LoopTree
    reach_layer source_layer value_layer piece_layer property_layer loop_layer
    (Source-F.Call at f xs)

pub source_of-Instance : (x : Reach)
    → source_of (e.Instance x) ≡ s.instance (reach_of x)
unfolding source_of reach_of value_of piece_of property_of loop_of
source_of-Instance x =
    ap (fold-Source ReachTree SourceTree ValueTree PieceTree PropertyTree LoopTree
    reach_layer source_layer value_layer piece_layer property_layer loop_layer)
    (sym (e.rolls-Instance x))
    ∙ fold-roll-Source ReachTree SourceTree ValueTree PieceTree PropertyTree LoopTree
    reach_layer source_layer value_layer piece_layer property_layer loop_layer
    (Source-F.Instance x)

pub source_of-Field : (x : Reach) (at : ℕ) (f : Field)
    → source_of (e.Field x at f) ≡ s.field (reach_of x) at f
unfolding source_of reach_of value_of piece_of property_of loop_of
source_of-Field x at f =
    ap (fold-Source ReachTree SourceTree ValueTree PieceTree PropertyTree LoopTree
    reach_layer source_layer value_layer piece_layer property_layer loop_layer)
    (sym (e.rolls-Field x at f))
    ∙ fold-roll-Source ReachTree SourceTree ValueTree PieceTree PropertyTree LoopTree
    reach_layer source_layer value_layer piece_layer property_layer loop_layer
    (Source-F.Field x at f)

pub source_of-Output : (x : Reach) (at : ℕ) (k : ℕ)
    → source_of (e.Output x at k) ≡ s.output (reach_of x) at k
unfolding source_of reach_of value_of piece_of property_of loop_of
source_of-Output x at k =
    ap (fold-Source ReachTree SourceTree ValueTree PieceTree PropertyTree LoopTree
    reach_layer source_layer value_layer piece_layer property_layer loop_layer)
    (sym (e.rolls-Output x at k))
    ∙ fold-roll-Source ReachTree SourceTree ValueTree PieceTree PropertyTree LoopTree
    reach_layer source_layer value_layer piece_layer property_layer loop_layer
    (Source-F.Output x at k)

pub source_of-Member : (x : Box Source Global) (k : Selector) (n : Name)
    → source_of (e.Member x k n) ≡ s.member (source_of x.value) k n
unfolding source_of reach_of value_of piece_of property_of loop_of
source_of-Member x k n =
    ap (fold-Source ReachTree SourceTree ValueTree PieceTree PropertyTree LoopTree
    reach_layer source_layer value_layer piece_layer property_layer loop_layer)
    (sym (e.rolls-Member x k n))
    ∙ fold-roll-Source ReachTree SourceTree ValueTree PieceTree PropertyTree LoopTree
    reach_layer source_layer value_layer piece_layer property_layer loop_layer
    (Source-F.Member x k n)

pub source_of-Index : (x : Box Source Global) (k : Indexing) (y : Box Source Global)
    → source_of (e.Index x k y) ≡ s.index (source_of x.value) k (source_of y.value)
unfolding source_of reach_of value_of piece_of property_of loop_of
source_of-Index x k y =
    ap (fold-Source ReachTree SourceTree ValueTree PieceTree PropertyTree LoopTree
    reach_layer source_layer value_layer piece_layer property_layer loop_layer)
    (sym (e.rolls-Index x k y))
    ∙ fold-roll-Source ReachTree SourceTree ValueTree PieceTree PropertyTree LoopTree
    reach_layer source_layer value_layer piece_layer property_layer loop_layer
    (Source-F.Index x k y)

pub source_of-Prefix : (at : ℕ) (p : Prefix) (x : Box Source Global)
    → source_of (e.Prefix at p x) ≡ s.prefixed at p (source_of x.value)
unfolding source_of reach_of value_of piece_of property_of loop_of
source_of-Prefix at p x =
    ap (fold-Source ReachTree SourceTree ValueTree PieceTree PropertyTree LoopTree
    reach_layer source_layer value_layer piece_layer property_layer loop_layer)
    (sym (e.rolls-Prefix at p x))
    ∙ fold-roll-Source ReachTree SourceTree ValueTree PieceTree PropertyTree LoopTree
    reach_layer source_layer value_layer piece_layer property_layer loop_layer
    (Source-F.Prefix at p x)

pub source_of-Binary : (o : Operator) (x : Box Source Global) (y : Box Source Global)
    → source_of (e.Binary o x y) ≡ s.binary o (source_of x.value) (source_of y.value)
unfolding source_of reach_of value_of piece_of property_of loop_of
source_of-Binary o x y =
    ap (fold-Source ReachTree SourceTree ValueTree PieceTree PropertyTree LoopTree
    reach_layer source_layer value_layer piece_layer property_layer loop_layer)
    (sym (e.rolls-Binary o x y))
    ∙ fold-roll-Source ReachTree SourceTree ValueTree PieceTree PropertyTree LoopTree
    reach_layer source_layer value_layer piece_layer property_layer loop_layer
    (Source-F.Binary o x y)

pub source_of-Conditional : (x : Box Source Global) (y : Box Source Global) (z : Box Source Global)
    → source_of (e.Conditional x y z) ≡ s.conditional (source_of x.value) (source_of y.value) (source_of z.value)
unfolding source_of reach_of value_of piece_of property_of loop_of
source_of-Conditional x y z =
    ap (fold-Source ReachTree SourceTree ValueTree PieceTree PropertyTree LoopTree
    reach_layer source_layer value_layer piece_layer property_layer loop_layer)
    (sym (e.rolls-Conditional x y z))
    ∙ fold-roll-Source ReachTree SourceTree ValueTree PieceTree PropertyTree LoopTree
    reach_layer source_layer value_layer piece_layer property_layer loop_layer
    (Source-F.Conditional x y z)

pub reach_of-Symbol : (at : ℕ) (t : Target)
    → reach_of (r.Symbol at t) ≡ s.symbol at t
unfolding source_of reach_of value_of piece_of property_of loop_of
reach_of-Symbol at t =
    ap (fold-Reach ReachTree SourceTree ValueTree PieceTree PropertyTree LoopTree
    reach_layer source_layer value_layer piece_layer property_layer loop_layer)
    (sym (r.rolls-Symbol at t))
    ∙ fold-roll-Reach ReachTree SourceTree ValueTree PieceTree PropertyTree LoopTree
    reach_layer source_layer value_layer piece_layer property_layer loop_layer
    (Reach-F.Symbol at t)

pub reach_of-Element : (at : ℕ) (t : Target) (x : Box Source Global)
    → reach_of (r.Element at t x) ≡ s.element at t (source_of x.value)
unfolding source_of reach_of value_of piece_of property_of loop_of
reach_of-Element at t x =
    ap (fold-Reach ReachTree SourceTree ValueTree PieceTree PropertyTree LoopTree
    reach_layer source_layer value_layer piece_layer property_layer loop_layer)
    (sym (r.rolls-Element at t x))
    ∙ fold-roll-Reach ReachTree SourceTree ValueTree PieceTree PropertyTree LoopTree
    reach_layer source_layer value_layer piece_layer property_layer loop_layer
    (Reach-F.Element at t x)

pub value_of-Plain : (x : Source)
    → value_of (v.Plain x) ≡ s.plain (source_of x)
unfolding source_of reach_of value_of piece_of property_of loop_of
value_of-Plain x =
    ap (fold-SourceValue ReachTree SourceTree ValueTree PieceTree PropertyTree LoopTree
    reach_layer source_layer value_layer piece_layer property_layer loop_layer)
    (sym (v.rolls-Plain x))
    ∙ fold-roll-SourceValue ReachTree SourceTree ValueTree PieceTree PropertyTree LoopTree
    reach_layer source_layer value_layer piece_layer property_layer loop_layer
    (SourceValue-F.Plain x)

pub value_of-Each : (l : SourceLoop) (x : Source)
    → value_of (v.Each l x) ≡ s.each (loop_of l) (source_of x)
unfolding source_of reach_of value_of piece_of property_of loop_of
value_of-Each l x =
    ap (fold-SourceValue ReachTree SourceTree ValueTree PieceTree PropertyTree LoopTree
    reach_layer source_layer value_layer piece_layer property_layer loop_layer)
    (sym (v.rolls-Each l x))
    ∙ fold-roll-SourceValue ReachTree SourceTree ValueTree PieceTree PropertyTree LoopTree
    reach_layer source_layer value_layer piece_layer property_layer loop_layer
    (SourceValue-F.Each l x)

pub ruleset enums = (
  source_of-Name,
  source_of-Literal,
  source_of-Interpolated,
  source_of-Object,
  source_of-Array,
  source_of-Call,
  source_of-Instance,
  source_of-Field,
  source_of-Output,
  source_of-Member,
  source_of-Index,
  source_of-Prefix,
  source_of-Binary,
  source_of-Conditional,
  reach_of-Symbol,
  reach_of-Element,
  value_of-Plain,
  value_of-Each,
)

pub piece_of-is : (x : Piece) → piece_of x ≡ (source_of x.value, x.after)
unfolding source_of reach_of value_of piece_of property_of loop_of
piece_of-is x =
    let y : Piece-F Reach Source SourceValue Piece Property SourceLoop = record { value = x.value; after = x.after } in
    ap (fold-Piece ReachTree SourceTree ValueTree PieceTree PropertyTree LoopTree
    reach_layer source_layer value_layer piece_layer property_layer loop_layer)
    (views.is-struct-Piece x ∙ sym (views.rolls-struct-Piece y))
    ∙ fold-roll-Piece ReachTree SourceTree ValueTree PieceTree PropertyTree LoopTree
    reach_layer source_layer value_layer piece_layer property_layer loop_layer y

pub property_of-is : (x : Property) → property_of x ≡ (x.at, x.name, value_of x.value)
unfolding source_of reach_of value_of piece_of property_of loop_of
property_of-is x =
    let y : Property-F Reach Source SourceValue Piece Property SourceLoop =
    record { at = x.at; name = x.name; value = x.value } in
    ap (fold-Property ReachTree SourceTree ValueTree PieceTree PropertyTree LoopTree
    reach_layer source_layer value_layer piece_layer property_layer loop_layer)
    (views.is-struct-Property x ∙ sym (views.rolls-struct-Property y))
    ∙ fold-roll-Property ReachTree SourceTree ValueTree PieceTree PropertyTree LoopTree
    reach_layer source_layer value_layer piece_layer property_layer loop_layer y

pub loop_of-is : (x : SourceLoop) → loop_of x ≡ s.loop x.at (source_of x.over)
unfolding source_of reach_of value_of piece_of property_of loop_of
loop_of-is x =
    let y : SourceLoop-F Reach Source SourceValue Piece Property SourceLoop = record { at = x.at; over = x.over } in
    ap (fold-SourceLoop ReachTree SourceTree ValueTree PieceTree PropertyTree LoopTree
    reach_layer source_layer value_layer piece_layer property_layer loop_layer)
    (views.is-struct-SourceLoop x ∙ sym (views.rolls-struct-SourceLoop y))
    ∙ fold-roll-SourceLoop ReachTree SourceTree ValueTree PieceTree PropertyTree LoopTree
    reach_layer source_layer value_layer piece_layer property_layer loop_layer y

pub ruleset structs = (piece_of-is, property_of-is, loop_of-is)
