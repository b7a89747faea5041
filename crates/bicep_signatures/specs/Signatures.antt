-- Ways to call a function, of which its arguments have to fit one.
use Rattle.std.specs.Prelude.{Option, Some, None, if◌then◌else◌}
use Rattle.bicep_signatures.specs.declared.signature.Signature.{Signature}
use Rattle.bicep_signatures.specs.declared.signature.Signatures.{Signatures}
use Rattle.bicep_signatures.specs.declared.value_type.ValueType.{ValueType}
use Rattle.bicep_signatures.specs.Types.{common}
use Rattle.bicep_signatures.specs.Kinds.{fits}

-- the way after its next argument
abbrev pub next : Signature → Signature
next s = record { first = s.second; second = s.rest; rest = s.rest; value = s.value }

-- the way after an argument of that type, if it takes one
abbrev pub advanced : Option Signature → ValueType → Option Signature
advanced (Some s) x = if fits s.first x then Some (next s) else None
advanced None x = None

-- the ways that are left after an argument of that type
abbrev pub left_after : Signatures → ValueType → Signatures
left_after s x = record { one = advanced s.one x; two = advanced s.two x; three = advanced s.three x }

-- the type that values have by either way
abbrev pub result_in : Option ValueType → Option Signature → Option ValueType
result_in (Some x) (Some s) = Some (common x s.value)
result_in (Some x) None = Some x
result_in None (Some s) = Some s.value
result_in None None = None

-- the one type of the values that the ways give, else Any; none where there is no way
abbrev pub result_of : Signatures → Option ValueType
result_of s = result_in (result_in (result_in None s.one) s.two) s.three
