-- Values that are within the limits of templates.
use Rattle.std.specs.Prelude.{◌≤◌}
use Rattle.tree_building.specs.Templates.{TemplateTree, TemplateValue}
use Rattle.tree_building.specs.Written.{IsWithin, ValueIsWithin}
use Rattle.tree_building.specs.Depth.{depth, value_depth}

-- its expressions are within the limits, and it nests so deep that it can be the value of a member
pub record MayBeBuilt (v : TemplateValue) : Type 0 where
  pub within : ValueIsWithin v
  pub nests : value_depth v ≤ 119

-- the same of a value that is no loop
pub record TreeMayBeBuilt (e : TemplateTree) : Type 0 where
  pub within : IsWithin e
  pub nests : depth e ≤ 119
