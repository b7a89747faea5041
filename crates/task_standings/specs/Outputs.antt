-- The outputs of a deployment: those of its root that have a value, in the order of the template.
use Rattle.std.specs.Prelude.{◌≡◌, ℕ, List, [], ◌∷◌, map, Option, Some, None}
use Rattle.arm_value.specs.Json.{Json}
use Rattle.arm_value.specs.Look.{fold}
use Rattle.arm_value.specs.View.{json}
use Rattle.reading.specs.Knowledge.{IsThere, blanked}
use Rattle.template_parts.specs.declared.output.Output.{Output}
use Rattle.template_parts.specs.declared.value_type.ValueType.{ValueType}
use Rattle.deploy_cells.specs.Cells.{World, output}
use Rattle.board_history.specs.Children.{Has, output_names}
use Rattle.board_history.specs.Known.{Table}
use Rattle.board_history.specs.Resources.{header_in}
use Rattle.board_history.specs.Events.{Progress}
use Rattle.board_history.specs.Legal.{AllDone}
use Rattle.board_history.specs.Planned.{Planned}
use Rattle.board_history.specs.Points.{IsTableOf}
use Rattle.task_standings.specs.Standings.{AreScopesSeen}
use Rattle.task_standings.specs.declared.standing.RootOutput.{RootOutput}

-- an output with its name as it is spelled, its type and its value
pub record OutputValue : Type 0 where
  pub name : List ℕ
  pub kind : ValueType
  pub value : Json

-- an output that is returned
abbrev pub value_of : RootOutput → OutputValue
value_of o = record { name = o.name; kind = o.kind; value = json o.value }

-- an output without a value is left out
abbrev pub with_value : Output → Option Json → List OutputValue → List OutputValue
with_value o None vs = vs
with_value o (Some j) vs = record { name = o.name; kind = o.kind; value = j } ∷ vs

-- those of the outputs that have a value, in their order
abbrev pub with_values : (List ℕ → Option Json) → List Output → List OutputValue
with_values f [] = []
with_values f (o ∷ os) = with_value o (f (fold o.name)) (with_values f os)

-- the outputs of the root in a world
abbrev pub outputs_in : Planned → World → List OutputValue
outputs_in x w = with_values (λ n. w (output [] n)) (header_in x.deployment.template).outputs

-- the outputs of the root are known, and these are they
pub record AreOutputs (x : Planned) (t : Table) (os : List RootOutput) : Type 0 where
  pub are_known : (n : List ℕ) → Has n (output_names x.deployment.template) → IsThere (t (output [] n))
  pub are : map value_of os ≡ outputs_in x (blanked t)

-- by all that is known these are the outputs of the root
abbrev pub AreAllOutputs : Planned → Progress → List RootOutput → Type 0
AreAllOutputs x p os = (t : Table) → IsTableOf x p t → AreOutputs x t os

-- each task is done, and the table has what the scopes have that were entered and left
pub record IsAllSeen (x : Planned) (p : Progress) (t : Table) : Type 0 where
  pub all_done : AllDone x p
  pub scopes : AreScopesSeen x p t
