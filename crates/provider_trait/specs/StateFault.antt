-- When a value is no state.
use Rattle.std.specs.Prelude.{◌<◌}
use Rattle.arm_value.specs.Json.{Json, nesting}
use Rattle.provider_trait.specs.declared.state.StateFault.{StateFault}
use Rattle.provider_trait.specs.declared.state.StateFault.TheVariants.{TooDeep, OutOfMemory}

-- why this value is no state
abbrev pub IsStateFault : Json → StateFault → Type 0
IsStateFault j TooDeep = 110 < nesting j
IsStateFault j OutOfMemory = Unit {0}
