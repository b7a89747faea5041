-- What the ways to call a function say of its value and of its arguments.
use Rattle.std.specs.Prelude.{◌≡◌, ◌⊎◌, true, List, [], ◌∷◌, Option, Some, None}
use Rattle.arm_value.specs.Json.{Json}
use Rattle.bicep_signatures.specs.declared.signature.Signature.{Signature}
use Rattle.bicep_signatures.specs.declared.signature.Signatures.{Signatures}
use Rattle.bicep_signatures.specs.Kinds.{fits}
use Rattle.bicep_signatures.specs.Signatures.{next}
use Rattle.bicep_soundness.specs.Values.{type_of_value, IsOfType}

-- the value is of the type that the way has, if there is one
abbrev pub WayGives : Json → Option Signature → Type 0
WayGives v None = Unit {0}
WayGives v (Some s) = IsOfType s.value v

-- the value is of the type of each of the ways
abbrev pub AllGive : Json → Signatures → Type 0
AllGive v w = WayGives v w.one × (WayGives v w.two × WayGives v w.three)

-- the arguments are of the kinds that the way takes
abbrev pub AreFit : Signature → List Json → Type 0
AreFit s [] = Unit {0}
AreFit s (v ∷ vs) = (fits s.first (type_of_value v) ≡ true) × AreFit (next s) vs

-- the way takes these arguments and is of the type of the value
abbrev pub IsWayOf : Json → List Json → Option Signature → Type 0
IsWayOf v vs None = ⊥
IsWayOf v vs (Some s) = AreFit s vs × IsOfType s.value v

abbrev pub HasWayOf : Json → List Json → Signatures → Type 0
HasWayOf v vs w = IsWayOf v vs w.one ⊎ (IsWayOf v vs w.two ⊎ IsWayOf v vs w.three)

-- the value is of the type of each way, or one of the ways takes the arguments and is of the type of the value
abbrev pub IsAnswered : Json → List Json → Signatures → Type 0
IsAnswered v vs w = AllGive v w ⊎ HasWayOf v vs w
