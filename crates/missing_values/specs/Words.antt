-- The paths of the code.
use Rattle.std.specs.Prelude.{Bool, true, false, map, Option, Some, None, option_map, Result, Ok, Err}
use Rattle.std.specs.declared.vec.Vec.{Vec}
use Rattle.std.specs.declared.alloc.Global.{Global}
use Rattle.reading.specs.Knowledge.{Told, value, no_value, waits}
use Rattle.arm_env.specs.Look.{Look}
use Rattle.arm_env.specs.declared.stop.Stop.{Stop}
use Rattle.missing_values.specs.Missing as missing
use Rattle.missing_values.specs.Missing.{a_member, an_item, Path}
use Rattle.missing_values.specs.declared.path.Step.{Step}
use Rattle.missing_values.specs.declared.path.Step.TheVariants as step

abbrev pub step_of : Step → missing.Step
step_of (step.Member name) = a_member name
step_of (step.Item place) = an_item place

abbrev pub path_of : Vec Step Global → Path
path_of steps = map step_of steps.items

abbrev pub path_found : Option (Vec Step Global) → Option Path
path_found found = option_map path_of found

-- whether it was found that each part has a value
abbrev pub is_nowhere : Result (Option (Vec Step Global)) Stop → Bool
is_nowhere (Ok None) = true
is_nowhere (Ok (Some path)) = false
is_nowhere (Err s) = false

-- whether there is a value
abbrev pub there_told : {A : Type 0} → Told Look A → Told Look Bool
there_told (value x) = value true
there_told no_value = value false
there_told (waits c) = waits c
