-- What an expression stands for, by its variant.
use Rattle.std.proofs.Common.{◌≡◌, ℕ, List, ap, sym, subst, ◌∙◌}
use Rattle.std.specs.Prelude.{Result}
use Rattle.std.specs.declared.boxed.Box.{Box}
use Rattle.std.specs.declared.alloc.Global.{Global}
use Rattle.bicep_tree.specs.declared.expr.Expr.{Expr}
use Rattle.bicep_tree.specs.declared.expr.Expr.TheVariants as x
use Rattle.bicep_tree.specs.declared.leaf.Access.{Access}
use Rattle.bicep_tree.specs.declared.leaf.Indexing.{Indexing}
use Rattle.bicep_tree.specs.declared.leaf.LoopNames.{LoopNames}
use Rattle.bicep_tree.specs.declared.leaf.Name.{Name}
use Rattle.bicep_tree.specs.declared.leaf.Prefix.{Prefix}
use Rattle.bicep_tree.specs.View.{tree_of}
use Rattle.bicep_tree.proofs.ViewLemmas.{tree_of-Access, tree_of-Index, tree_of-Prefix}
use Rattle.bicep_resolved.specs.declared.source.Source.{Source}
use Rattle.bicep_resolved.specs.Source.{SourceTree}
use Rattle.bicep_resolved.specs.Source as s
use Rattle.bicep_resolved.specs.View.{source_of}
use Rattle.bicep_found.specs.declared.stop.Stop.{Stop}
use Rattle.bicep_found.specs.Found.{Found, mapped, then_found, both, Gives}
use Rattle.bicep_names.specs.Scope.{Scope}
use Rattle.bicep_names.specs.Resolve.{resolved, accessed, indexed}

-- what an answer says of a tree, it says of an equal one
pub of_equal : {R B : Type 0} (whole : R → B) (r : Result R Stop) (f g : Found B) → f ≡ g → Gives whole r g
    → Gives whole r f
of_equal whole r f g e h = subst (Gives whole r) (sym e) h

module _ (sc : Scope) (ls : List LoopNames) where
  abbrev IsOf : Result Source Stop → Expr → Type 0
  IsOf a e = Gives source_of a (resolved sc (tree_of e) ls)

  pub access_by : (e part : Expr) (b : Box Expr Global) (k : Access) (n : Name) (a r : Result Source Stop)
      → e ≡ x.Access b k n → part ≡ b.value → IsOf a part
      → ((f : Found SourceTree) → Gives source_of a f → Gives source_of r (then_found (λ y. accessed sc y k n) f))
      → IsOf r e
  access_by e part b k n a r is at h make =
      subst (λ t. Gives source_of r (resolved sc t ls)) (sym (ap tree_of is ∙ tree_of-Access b k n))
      (make (resolved sc (tree_of b.value) ls) (subst (λ p. IsOf a p) at h))

  pub prefix_by : (e part : Expr) (place : ℕ) (p : Prefix) (b : Box Expr Global) (a r : Result Source Stop)
      → e ≡ x.Prefix place p b → part ≡ b.value → IsOf a part
      → ((f : Found SourceTree) → Gives source_of a f → Gives source_of r (mapped (λ y. s.prefixed place p y) f))
      → IsOf r e
  prefix_by e part place p b a r is at h make =
      subst (λ t. Gives source_of r (resolved sc t ls)) (sym (ap tree_of is ∙ tree_of-Prefix place p b))
      (make (resolved sc (tree_of b.value) ls) (subst (λ q. IsOf a q) at h))

  pub index_by : (e part index : Expr) (b : Box Expr Global) (k : Indexing) (i : Box Expr Global)
      (a d r : Result Source Stop) → e ≡ x.Index b k i → part ≡ b.value → index ≡ i.value → IsOf a part → IsOf d index
      → ((f g : Found SourceTree) → Gives source_of a f → Gives source_of d g
      → Gives source_of r (mapped (λ p. indexed p.0 k p.1) (both f g))) → IsOf r e
  index_by e part index b k i a d r is at there h g make =
      subst (λ t. Gives source_of r (resolved sc t ls)) (sym (ap tree_of is ∙ tree_of-Index b k i))
      (make (resolved sc (tree_of b.value) ls) (resolved sc (tree_of i.value) ls) (subst (λ p. IsOf a p) at h)
      (subst (λ p. IsOf d p) there g))
