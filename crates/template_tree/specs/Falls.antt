-- Each child is less deep than its parent.
use Rattle.std.specs.Prelude.{◌≤◌, suc, List, [], ◌∷◌, map}
use Rattle.std.proofs.Common.{arith}
use denote.Param.Weighed.{most}
use Rattle.template_tree.specs.Tree.{tree_depth, body_depth, trees_depth, trees}
use Rattle.template_tree.specs.View.{resource_tree, body_tree}
use Rattle.template_tree.specs.declared.resource.Body.{Body}
use Rattle.template_tree.specs.declared.resource.Body.TheVariants.{Members, Deployment}
use Rattle.template_tree.specs.declared.resource.Resource.{Resource}
use Rattle.template_tree.specs.declared.resource.Resources.TheDeep.{deep-Body, deep-Resource}

body_falls : (b : Body) → deep-Body b ≤ suc (suc (body_depth (body_tree b)))
body_falls (Members ms) = omega arith
body_falls (Deployment d) = omega arith

resource_falls : (r : Resource) → deep-Resource r ≤ suc (tree_depth (resource_tree r))
resource_falls r = omega (arith, body_falls r.body)

pub resources_fall : (rs : List Resource) → most deep-Resource rs ≤ suc (trees_depth (trees (map resource_tree rs)))
resources_fall [] = omega arith
resources_fall (r ∷ rs) = omega (arith, resource_falls r, resources_fall rs)
