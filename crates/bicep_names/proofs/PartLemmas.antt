-- Arguments, holes and members that are resolved one after another.
use Rattle.std.proofs.Common.{◌≡◌, List, [], ◌∷◌, ◌++◌, map, refl, ap, ◌∙◌}
use Rattle.std.specs.Prelude.{option_to_list}
use Rattle.bicep_tree.specs.declared.expr.Expr.{Expr}
use Rattle.bicep_tree.specs.declared.expr.Hole.{Hole}
use Rattle.bicep_tree.specs.declared.expr.Member.{Member}
use Rattle.bicep_tree.specs.declared.leaf.LoopNames.{LoopNames}
use Rattle.bicep_tree.specs.Offset.{label_offset}
use Rattle.bicep_tree.specs.Symbol.{label_text}
use Rattle.bicep_tree.specs.Tree.{MemberTree}
use Rattle.bicep_tree.specs.Tree as tree
use Rattle.bicep_tree.specs.View as view
use Rattle.bicep_tree.specs.View.{tree_of}
use Rattle.bicep_resolved.specs.Source.{SourceTree}
use Rattle.bicep_resolved.specs.Source as s
use Rattle.bicep_resolved.specs.View.{PieceTree, PropertyTree, sources, pieces, properties}
use Rattle.bicep_found.specs.Found.{Found, mapped, both, all_found}
use Rattle.bicep_found.proofs.GatherLemmas.{one, woven, woven_same, woven_some, woven_none}
use Rattle.bicep_names.specs.Scope.{Scope}
use Rattle.bicep_names.specs.Resolve.{resolved, resolved_all, resolved_holes, resolved_members, resolved_value}
use Rattle.bicep_names.specs.Parts.{resolved_hole, resolved_member}

-- what is found of one part
abbrev pub item_of : Scope → List LoopNames → Expr → Found (List SourceTree)
item_of sc ls e = mapped one (resolved sc (tree_of e) ls)

abbrev pub piece_found : Scope → List LoopNames → Hole → Found (List PieceTree)
piece_found sc ls h = mapped one (resolved_hole sc (view.hole_of h) ls)

abbrev pub property_found : Scope → List LoopNames → Member → Found (List PropertyTree)
property_found sc ls m = mapped option_to_list (resolved_member sc (view.member_of m) ls)

abbrev put_piece : PieceTree → s.PieceTrees → s.PieceTrees
put_piece p ps = s.piece p.0 p.1 ps

abbrev put_property : PropertyTree → s.PropertyTrees → s.PropertyTrees
put_property p ps = s.property p.0 p.1 p.2 ps

module _ (sc : Scope) (ls : List LoopNames) where
  pub all_is : (es : List Expr)
      → resolved_all sc (tree.trees (map tree_of es)) ls ≡ mapped sources (all_found (map (item_of sc ls) es))
  unfolding mapped all_found
  all_is [] = refl
  all_is (e ∷ es) =
      ap (λ g. mapped (λ p. s.more p.0 p.1) (both (resolved sc (tree_of e) ls) g)) (all_is es)
      ∙ woven_same sources (λ x xs. s.more x xs) (λ x xs. refl) (resolved sc (tree_of e) ls)
      (all_found (map (item_of sc ls) es))

  pub holes_are : (hs : List Hole) → resolved_holes sc (tree.holes (map view.hole_of hs)) ls
      ≡ mapped pieces (all_found (map (piece_found sc ls) hs))
  unfolding mapped all_found
  holes_are [] = refl
  holes_are (h ∷ hs) =
      let t = view.hole_of h in
      ap (λ g. mapped (λ p. s.piece p.0 t.1 p.1) (both (resolved sc t.0 ls) g)) (holes_are hs)
      ∙ woven pieces put_piece (λ x. (x, t.1)) (λ x xs. refl) (resolved sc t.0 ls)
      (all_found (map (piece_found sc ls) hs))

  member_is : (m : MemberTree) (ms : tree.MemberTrees) (g : Found (List PropertyTree))
      → resolved_members sc ms ls ≡ mapped properties g
      → resolved_members sc (tree.and_member m ms) ls
      ≡ mapped properties (mapped (λ p. p.0 ++ p.1) (both (mapped option_to_list (resolved_member sc m ls)) g))
  member_is (tree.property l v) ms g h =
      ap (λ x. mapped (λ p. s.property (label_offset l) (label_text l) p.0 p.1) (both (resolved_value sc v ls) x)) h
      ∙ woven_some properties put_property (λ x. (label_offset l, label_text l, x)) (λ x xs. refl)
      (resolved_value sc v ls) g
  member_is (tree.child ds r) ms g h = h ∙ woven_none properties put_property (λ x. x) (λ x xs. refl) g

  pub members_are : (ms : List Member) → resolved_members sc (tree.members (map view.member_of ms)) ls
      ≡ mapped properties (all_found (map (property_found sc ls) ms))
  unfolding mapped all_found
  members_are [] = refl
  members_are (m ∷ ms) =
      member_is (view.member_of m) (tree.members (map view.member_of ms)) (all_found (map (property_found sc ls) ms))
      (members_are ms)
