-- What is built of a value, or the limit that it is beyond.
use Rattle.std.specs.Prelude.{◌≡◌, ℕ, Some, None, Result, Ok, Err}
use Rattle.arm_value.specs.View.{json}
use Rattle.arm_value.specs.declared.value.Value.{Value}
use Rattle.tree_building.specs.Templates.{TemplateTree, TemplateValue}
use Rattle.tree_building.specs.Written.{tree_json}
use Rattle.tree_building.specs.Built.{Matches}
use Rattle.tree_building.specs.declared.parts.Written.{Written}
use Rattle.measured_trees.specs.Extremes.{Extremes, tree_extremes, value_extremes}
use Rattle.measured_trees.specs.Limits.{IsBeyond}
use Rattle.tree_texts.specs.declared.building.TreeFault.{TreeFault}
use Rattle.tree_texts.specs.declared.building.TreeFault.TheVariants as fault

-- what takes so much of the limits may be built, or is beyond a limit
abbrev pub Allows : ℕ → Extremes → Result (Unit {0}) TreeFault → Type 0
Allows around x (Ok u) = IsBeyond around x None
Allows around x (Err (fault.Beyond b)) = IsBeyond around x (Some b)
Allows around x (Err fault.Memory) = Unit {0}

-- of a tree with so many arrays and objects around it
abbrev pub IsTree : ℕ → TemplateTree → Result Value TreeFault → Type 0
IsTree around e (Ok v) = IsBeyond around (tree_extremes e) None × (json v ≡ tree_json e)
IsTree around e (Err (fault.Beyond b)) = IsBeyond around (tree_extremes e) (Some b)
IsTree around e (Err fault.Memory) = Unit {0}

abbrev pub IsValue : ℕ → TemplateValue → Result Written TreeFault → Type 0
IsValue around v (Ok x) = IsBeyond around (value_extremes v) None × Matches v x
IsValue around v (Err (fault.Beyond b)) = IsBeyond around (value_extremes v) (Some b)
IsValue around v (Err fault.Memory) = Unit {0}
