-- The tasks that a program has in a world, but for deletions.
use Rattle.std.specs.Prelude.{◌≡◌, Bool, true, false, [], ◌∷◌, Some}
use Rattle.arm_value.specs.Json.{bool}
use Rattle.deploy_cells.specs.Cells.{Step, Position, World, included}
use Rattle.deploy_cells.specs.Puts.{Kind}
use Rattle.plan_cells.specs.Tasks.{Task, enter, leave, put, delete}
use Rattle.source_worlds.specs.Instances.{SourceProgram, kinds}

-- an instance is included, of a module or of a resource
pub record IsIncluded (d : SourceProgram) (w : World) (p : Position) (s : Step) (is_module : Bool) : Type 0 where
  pub kind : Kind
  pub is_declared : kinds d p s.resource ≡ Some kind
  pub is_of : kind.is_deployment ≡ is_module
  pub has_condition : w (included p s) ≡ Some (bool true)

-- a scope is there: the main file's, and that of an included module
abbrev pub IsScope : SourceProgram → World → Position → Type 0
IsScope d w [] = Unit {0}
IsScope d w (s ∷ p) = IsIncluded d w p s true

-- the entry and the leave of each scope, and the put of each included resource. Which deletions there are is not said
abbrev pub IsTask : SourceProgram → World → Task → Type 0
IsTask d w (enter p) = IsScope d w p
IsTask d w (leave p) = IsScope d w p
IsTask d w (put p s) = IsIncluded d w p s false
IsTask d w (delete k) = Unit {0}
