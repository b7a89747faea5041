-- What a task gives, the state at the key that it puts or the outputs of the scope that it leaves, and what a scope has
-- when it is entered.
use Rattle.std.specs.Prelude.{Bool, false, List, [], Option, Some, None, option_and_then}
use Rattle.deploy_cells.specs.ResourceId.{ResourceId}
use Rattle.template_parameters.specs.Tree.{TemplateTree}
use Rattle.deploy_cells.specs.Cells.{Step, Position, Cell, offered, output, name, state, World}
use Rattle.deploy_cells.specs.Same.{same_id, same_position}
use Rattle.plan_cells.specs.Scopes.{template_at}
use Rattle.plan_cells.specs.Meaning.{Deployment, is_own}
use Rattle.plan_cells.specs.Desired.{kinds}
use Rattle.plan_cells.specs.Children.{own_cells}
use Rattle.plan_cells.specs.Tasks.{Task, enter, leave, put, delete, key_by}

abbrev pub of_template : (TemplateTree → List Cell) → Option TemplateTree → List Cell
of_template f None = []
of_template f (Some t) = f t

-- the parameters and variables that a scope has when it is entered
abbrev pub entry_cells : Deployment → Position → List Cell
entry_cells d p = of_template (own_cells (is_own d p) p) (template_at d.template p)

-- the key at which a task puts in a world
abbrev pub key_in : Deployment → World → Position → Step → Option ResourceId
key_in d w p s = option_and_then (key_by d.place (kinds d p s.resource)) (w (name p s))

abbrev pub is_state_at : Option ResourceId → Cell → Bool
is_state_at (Some k) (state l) = same_id k l
is_state_at _ _ = false

abbrev pub is_output_of : Position → Cell → Bool
is_output_of p (offered q x) = same_position p q
is_output_of p (output q x) = same_position p q
is_output_of p _ = false

-- whether a cell has its value by a task: the state at the key that it puts, or an output of the scope that it leaves
abbrev pub is_given_by : Deployment → World → Task → Cell → Bool
is_given_by d w (put p s) c = is_state_at (key_in d w p s) c
is_given_by d w (leave p) c = is_output_of p c
is_given_by d w _ c = false
