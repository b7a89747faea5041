-- Resources in a list.
use Rattle.std.proofs.Common.{◌≡◌, ◌≤◌, ◌<◌, ℕ, zero, suc, Bool, false, length, get_or, List, [], ◌∷◌}
use Rattle.std.proofs.Common.{map, refl, sym, ap, ◌∙◌, subst, arith}
use Rattle.std.specs.Prelude.{◌==◌}
use Rattle.template_tree.specs.Tree.{ResourceTree, trees, tree_depth, trees_depth}
use Rattle.template_tree.specs.View.{resource_tree}
use Rattle.template_tree.specs.declared.resource.Resource.{Resource}
use Rattle.template_nestings.specs.Nestings.{up, children_nesting}
use Rattle.template_nestings.proofs.NumberLemmas.{is_none}

depth_at : (rs : List Resource) (i : ℕ) (r : Resource) → i < length rs → r ≡ get_or rs i r
    → tree_depth (resource_tree r) ≤ trees_depth (trees (map resource_tree rs))
depth_at [] i r h e = absurd (omega arith)
depth_at (x ∷ rs) zero r h e = omega (arith, ap (λ y. tree_depth (resource_tree y)) e)
depth_at (x ∷ rs) (suc i) r h e = omega (arith, depth_at rs i r (omega arith) e)

-- a resource is no deeper than all
pub depth_below : (rs : List Resource) (ts : List ResourceTree) (i : ℕ) (r : Resource) → map resource_tree rs ≡ ts
    → i < length rs → r ≡ get_or rs i r → tree_depth (resource_tree r) ≤ trees_depth (trees ts)
depth_below rs ts i r e h is = omega (arith, depth_at rs i r h is, ap (λ us. trees_depth (trees us)) e)

children_there : (rs : List Resource) (n : ℕ) → (length rs == 0) ≡ false
    → up n ≡ children_nesting (trees (map resource_tree rs)) n
children_there [] n e = absurd (is_none e)
children_there (r ∷ rs) n e = refl

-- children of which there is one
pub children_are : (rs : List Resource) (ts : List ResourceTree) (b : Bool) (n : ℕ) → map resource_tree rs ≡ ts
    → b ≡ (length rs == 0) → b ≡ false → up n ≡ children_nesting (trees ts) n
children_are rs ts b n e h f =
    subst (λ us. up n ≡ children_nesting (trees us) n) e (children_there rs n (sym h ∙ f))
