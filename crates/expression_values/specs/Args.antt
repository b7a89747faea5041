-- What the arguments of a call in the code give.
use Rattle.std.specs.Prelude.{ℕ, List, map, Option, Some, None, option_map}
use Rattle.std.specs.declared.vec.Vec.{Vec}
use Rattle.std.specs.declared.alloc.Global.{Global}
use Rattle.arm_value.specs.Json.{Json, text}
use Rattle.arm_value.specs.View.{json}
use Rattle.arm_value.specs.declared.value.Value.{Value}
use Rattle.arm_expr.specs.declared.expr.Expr.{Expr}
use Rattle.arm_expr.specs.View.{tree_of}
use Rattle.arm_env.specs.Knowledge.{Told, no_value}
use Rattle.arm_env.specs.Look.{Look, Looking, Surroundings}
use Rattle.arm_env.specs.Held.{Held}
use Rattle.arm_env.specs.Answer.{plain_told}
use Rattle.expression_values.specs.Meaning as meaning

abbrev pub all_json : Vec Value Global → List Json
all_json vs = map json vs.items

-- what arguments give
abbrev pub outs : Surroundings → List Expr → List (Looking Json)
outs around es = map (λ e. meaning.value around (tree_of e)) es

-- the id of these texts, where all arguments are texts
abbrev pub id_told : (List (List ℕ) → Option (List ℕ)) → Option (List (List ℕ)) → Told Look Held
id_told id None = no_value
id_told id (Some ts) = plain_told (option_map text (id ts))
