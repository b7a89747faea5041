-- Where expressions become the same.
use Rattle.std.specs.Prelude.{◌≡◌, List}
use Rattle.bicep_resolved.specs.Source.{SourceTree}
use Rattle.tree_building.specs.Emitted.{Frame}
use Rattle.declared_table.specs.Sight.{Sight}
use Rattle.tree_building.specs.Sight.{expression}

-- each expression becomes the same with what surrounds it on either side
abbrev pub SameExpressions : Sight → Sight → Type 0
SameExpressions a b = (e : SourceTree) (fs : List Frame) → expression a e fs ≡ expression b e fs
