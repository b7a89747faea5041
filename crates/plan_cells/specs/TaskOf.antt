-- Which tasks a deployment has in a world, each by itself.
use Rattle.std.specs.Prelude.{◌≡◌, true, List, [], ◌∷◌, Some, None}
use Rattle.template_parameters.specs.Json.{bool}
use Rattle.reading.specs.World.{value_in}
use Rattle.deploy_cells.specs.Cells.{Step, Position, World, included}
use Rattle.plan_cells.specs.Resources.{Listed, Nested, nested_in}
use Rattle.plan_cells.specs.Scopes.{resource_of, nested_of}
use Rattle.plan_cells.specs.Meaning.{Deployment}
use Rattle.plan_cells.specs.Tasks.{Task, enter, leave, put, delete, template_tasks}
use Rattle.plan_cells.specs.Children.{Has}

-- a nested deployment is included
pub record IsInside (d : Deployment) (w : World) (p : Position) (s : Step) : Type 0 where
  pub nested : Nested
  pub is_nested : nested_of d.template p s ≡ Some nested
  pub is_included : w (included p s) ≡ Some (bool true)

-- a scope is there: the root, and that of an included nested deployment
abbrev pub IsScope : Deployment → World → Position → Type 0
IsScope d w [] = Unit {0}
IsScope d w (s ∷ p) = IsInside d w p s

-- a resource that is no nested deployment is included
pub record IsResource (d : Deployment) (w : World) (p : Position) (s : Step) : Type 0 where
  pub listed : Listed
  pub is_listed : resource_of d.template p s.resource ≡ Some listed
  pub is_put : nested_in listed.content ≡ None
  pub is_included : w (included p s) ≡ Some (bool true)

-- the entry and the leave of each scope, and the put of each included resource
abbrev pub IsTask : Deployment → World → Task → Type 0
IsTask d w (enter p) = IsScope d w p
IsTask d w (leave p) = IsScope d w p
IsTask d w (put p s) = IsResource d w p s
IsTask d w (delete k) = ⊥

-- the list of tasks of the scopes has these, and no others
pub record AreTasks (d : Deployment) (w : World) (ts : List Task) : Type 0 where
  pub is_read : value_in w (template_tasks [] d.template) ≡ Some ts
  pub each : (x : Task) → Has x ts → IsTask d w x
  pub all : (x : Task) → IsTask d w x → Has x ts
