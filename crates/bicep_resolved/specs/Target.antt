-- The resource or module that is reached.
use Rattle.std.specs.Prelude.{ℕ}
use Rattle.bicep_resolved.specs.declared.leaf.Target.{Target}
use Rattle.bicep_resolved.specs.declared.leaf.Target.TheVariants as t
use Rattle.bicep_resolved.specs.Source.{ReachTree}
use Rattle.bicep_resolved.specs.Source as s

-- its number among the symbols of its file
abbrev pub number_of : Target → ℕ
number_of (t.Resource n) = n
number_of (t.ResourceLoop n) = n
number_of (t.Module n file) = n
number_of (t.ModuleLoop n file) = n

-- the resource or module, whichever element it is
abbrev pub target_of : ReachTree → Target
target_of (s.symbol at x) = x
target_of (s.element at x e) = x
