-- Parts of expressions: what an expression of the code may be, and what is found of one hole or one member.
use Rattle.std.specs.Prelude.{◌≡◌, List, Result, Ok, Err, Option, Some, None, map}
use Rattle.std.specs.declared.vec.Vec.{Vec}
use Rattle.std.specs.declared.alloc.Global.{Global}
use Rattle.bicep_resolved.specs.declared.source.Piece.{Piece}
use Rattle.bicep_resolved.specs.declared.source.Property.{Property}
use Rattle.bicep_resolved.specs.declared.source.Reach.{Reach}
use Rattle.bicep_resolved.specs.declared.source.Source.{Source}
use Rattle.bicep_resolved.specs.Source.{SourceTrees, PieceTrees, PropertyTrees}
use Rattle.bicep_resolved.specs.View.{source_of, reach_of, piece_of, property_of, sources, pieces, properties}
use Rattle.bicep_resolved.specs.View.{PieceTree, PropertyTree}
use Rattle.bicep_tree.specs.declared.leaf.LoopNames.{LoopNames}
use Rattle.bicep_tree.specs.Offset.{label_offset}
use Rattle.bicep_tree.specs.Symbol.{label_text}
use Rattle.bicep_tree.specs.Tree.{MemberTree}
use Rattle.bicep_tree.specs.Tree as tree
use Rattle.bicep_tree.specs.View.{HoleTree}
use Rattle.bicep_found.specs.Found.{Found, found, mapped}
use Rattle.bicep_names.specs.Scope.{Scope}
use Rattle.bicep_names.specs.Resolve.{resolved, resolved_value, reach_in, outputs_in}

-- the resource or module that the expression is, or else the expression
abbrev pub IsReach : Source → Result Reach Source → Type 0
IsReach x (Ok r) = reach_in (source_of x) ≡ Some (reach_of r)
IsReach x (Err y) = (reach_in (source_of x) ≡ None) × (y ≡ x)

-- the module whose outputs the expression is, or else the expression
abbrev pub IsOutputs : Source → Result Reach Source → Type 0
IsOutputs x (Ok r) = outputs_in (source_of x) ≡ Some (reach_of r)
IsOutputs x (Err y) = (outputs_in (source_of x) ≡ None) × (y ≡ x)

-- the trees that vectors represent
abbrev pub sources_of : Vec Source Global → SourceTrees
sources_of v = sources (map source_of v.items)

abbrev pub pieces_of : Vec Piece Global → PieceTrees
pieces_of v = pieces (map piece_of v.items)

abbrev pub properties_of : Vec Property Global → PropertyTrees
properties_of v = properties (map property_of v.items)

-- a hole of an interpolated text
abbrev pub resolved_hole : Scope → HoleTree → List LoopNames → Found PieceTree
resolved_hole sc h ls = mapped (λ x. (x, h.1)) (resolved sc h.0 ls)

-- the property that a member of an object is, if it is one
abbrev pub resolved_member : Scope → MemberTree → List LoopNames → Found (Option PropertyTree)
resolved_member sc (tree.property l v) ls =
    mapped (λ x. Some (label_offset l, label_text l, x)) (resolved_value sc v ls)
resolved_member sc (tree.child ds r) ls = found None
