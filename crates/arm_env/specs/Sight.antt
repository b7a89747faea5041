-- The surroundings, the declared outputs and the held values of the code.
use Rattle.arm_value.specs.View.{json}
use Rattle.arm_env.specs.Look as look
use Rattle.arm_env.specs.Held as held
use Rattle.arm_env.specs.declared.entries.Around.{Around}
use Rattle.arm_env.specs.declared.entries.Declared.{Declared}
use Rattle.arm_env.specs.declared.held.Held as helds
use Rattle.arm_env.specs.declared.held.Held.TheVariants as code

-- the surroundings
abbrev pub here : Around → look.Surroundings
here a = record { loops = a.loops.now; place = a.place.now }

abbrev pub declared_of : Declared → look.Declared
declared_of x = record { name = x.name.now; kind = x.kind.now }

abbrev pub held_of : helds.Held → held.Held
held_of (code.Owned v) = held.plain (json v)
held_of (code.Lent v) = held.plain (json v.now)
held_of (code.Whole v) = held.state_whole (json v.now)
held_of (code.Deployment k) = held.deployment k
held_of (code.Outputs k) = held.outputs k
held_of (code.Output k name) = held.one_output (record { key = k; name = name })
