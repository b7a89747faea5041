-- What an answer says of an expression, or of a tree, by what is known.
use Rattle.std.specs.Prelude.{◌≡◌, Some, None}
use Rattle.arm_value.specs.Json.{Json}
use Rattle.arm_value.specs.View.{json}
use Rattle.reading.specs.Knowledge.{Known, value, no_value, waits, told, IsFinal, IsAwaited}
use Rattle.arm_env.specs.Look.{Look, Fact, parameter, variable, output, state, named, deployment, outputs, Looking}
use Rattle.arm_eval.specs.declared.got.Got.{Got}
use Rattle.arm_eval.specs.declared.got.Got.TheVariants as got

-- it is no state
abbrev pub IsEntry : Look → Type 0
IsEntry (parameter name) = Unit {0}
IsEntry (variable name) = Unit {0}
IsEntry (output k name) = Unit {0}
IsEntry (state k) = ⊥
IsEntry (named t) = Unit {0}
IsEntry (deployment k) = Unit {0}
IsEntry (outputs k) = Unit {0}

-- the first entry that is looked at and is not known yet is no state
pub record IsLate (p : Look → Known Fact) (r : Looking Json) : Type 0 where
  pub entry : Look
  pub is_no_state : IsEntry entry
  pub waits_for : told p r ≡ waits entry
  pub is_awaited : IsAwaited p r entry

-- the value, or none, of what looks only at what is known, and then under every completion; else
-- the first entry that is looked at and is not known yet
abbrev pub Says : (Look → Known Fact) → Looking Json → Got → Type 0
Says p r (got.Value v) = (told p r ≡ value (json v)) × IsFinal p r (Some (json v))
Says p r got.NoValue = (told p r ≡ no_value) × IsFinal p r None
Says p r (got.Needs k) = (told p r ≡ waits (state k)) × IsAwaited p r (state k)
Says p r got.Late = IsLate p r
