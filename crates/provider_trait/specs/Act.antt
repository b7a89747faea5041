-- What each act asks for.
use Rattle.std.specs.Prelude.{◌≡◌, ◌≤◌, Bool, true, false, refl}
use Rattle.std.specs.Coded.{Coded, code_by, coded_bool}
use Rattle.arm_value.specs.Json.{Json, null, object, nesting}
use Rattle.provider_trait.specs.declared.act.Act.{Act}
use Rattle.provider_trait.specs.declared.act.Act.TheVariants.{Put, Delete}

-- the body of a put is an object that nests at most 100, and that of a deletion is null
abbrev pub FitsAct : Act → Json → Type 0
FitsAct Put (object ms) = nesting (object ms) ≤ 100
FitsAct Put _ = ⊥
FitsAct Delete null = Unit {0}
FitsAct Delete _ = ⊥

-- whether the act is a put
abbrev pub is_put : Act → Bool
is_put Put = true
is_put Delete = false

-- a put, or else a deletion
abbrev pub act_of : Bool → Act
act_of true = Put
act_of false = Delete

-- no act is lost
pub act_of-is_put : (act : Act) → act_of (is_put act) ≡ act
act_of-is_put Put = refl
act_of-is_put Delete = refl

-- an act is stored as whether it is a put
abbrev pub act_code : Coded Act
act_code = code_by Bool coded_bool is_put act_of act_of-is_put
