-- When the parts of a name stand for an id of the program.
use Rattle.std.specs.Prelude.{ℕ, List, Option, option_and_then}
use Rattle.arm_value.specs.Json.{Json}
use Rattle.arm_ids.specs.declared.id.Place.{Place}
use Rattle.arm_ids.specs.declared.id.ResourceId.{ResourceId}
use Rattle.arm_expr.specs.Tree.{Tree, trees}
use Rattle.arm_env.specs.Look as look
use Rattle.arm_env.specs.Look.{Surroundings}
use Rattle.function_prints.specs.Cuts.{texts_in}
use Rattle.expression_values.specs.Meaning.{values}
use Rattle.reading.specs.Reading.{done, continued}
use Rattle.deploy_cells.specs.Guarded.{Reads}
use Rattle.bicep_emission.specs.Answered.{Sides}
use Rattle.bicep_emission.specs.Stands.{Like}
use Rattle.bicep_emission.specs.Made.{made_whole}

-- the id of a type and the texts that these are
abbrev pub made_of : Place → List ℕ → List Json → Option ResourceId
made_of place kind vs = option_and_then (made_whole place kind) (texts_in vs)

-- the parts make the id
abbrev pub PartsStand : Sides → Surroundings → List ℕ → List Tree → Reads ResourceId → Type 0
PartsStand x around kind ps r =
    Like x (continued (look.all (values around (trees ps))) (λ vs. done (made_of around.place kind vs))) r
