-- A resource among others is no deeper than the deepest of them.
use Rattle.std.proofs.Common.{◌≡◌, ◌<◌, ◌≤◌, ℕ, zero, suc, List, [], ◌∷◌, length, get_or, map, arith, subst, sym, ap}
use Rattle.template_tree.specs.Tree.{tree_depth, trees_depth, trees}
use Rattle.template_tree.specs.View.{resource_tree}
use Rattle.template_tree.specs.declared.resource.Resource.{Resource}

resource_at : (rs : List Resource) (i : ℕ) (r s : Resource) → i < length rs → s ≡ get_or rs i r
    → tree_depth (resource_tree s) ≤ trees_depth (trees (map resource_tree rs))
resource_at [] i r s h e = absurd (omega arith)
resource_at (x ∷ rs) zero r s h e = omega (arith, ap (λ y. tree_depth (resource_tree y)) e)
resource_at (x ∷ rs) (suc i) r s h e =
    let lt : i < length rs = omega arith in omega (arith, resource_at rs i r s lt e)

pub resource_within : (rs : List Resource) (i : ℕ) (r : Resource) → i < length rs → r ≡ get_or rs i r
    → tree_depth (resource_tree r) ≤ trees_depth (trees (map resource_tree rs))
resource_within rs i r h e = resource_at rs i r r h e
