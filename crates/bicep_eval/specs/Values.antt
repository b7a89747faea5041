-- The readings of `bicep_meaning` for what surrounds an expression.
use Rattle.std.specs.Prelude.{ℕ, Bool, true, false, List, ◌∷◌}
use Rattle.arm_value.specs.Json.{Json, Member}
use Rattle.deploy_cells.specs.Guarded.{Reads}
use Rattle.bicep_tree.specs.declared.leaf.Operator.{Operator}
use Rattle.bicep_resolved.specs.Source.{SourceTree, SourceTrees, PieceTrees, PropertyTrees, ValueTree}
use Rattle.bicep_resolved.specs.View.{PieceTree, PropertyTree}
use Rattle.bicep_meaning.specs.Rows as rows
use Rattle.bicep_meaning.specs.Around.{Frame}
use Rattle.bicep_meaning.specs.Around as frames
use Rattle.bicep_meaning.specs.Meaning as m
use Rattle.bicep_surroundings.specs.Sight.{Sight}

-- an expression, and the same where it may nest too deep
abbrev pub value : Sight → SourceTree → List Frame → Reads Json
value s e fs = m.value s.here s.around e fs

abbrev pub bare : Sight → SourceTree → List Frame → Reads Json
bare s e fs = m.bare s.here s.around e fs

abbrev pub value_of : Sight → ValueTree → List Frame → Reads Json
value_of s v fs = m.value_of s.here s.around v fs

-- all of these
abbrev pub values : Sight → SourceTrees → List Frame → Reads (List Json)
values s es fs = rows.all (m.values s.here s.around es fs)

abbrev pub texts : Sight → PieceTrees → List Frame → Reads (List (List ℕ))
texts s ps fs = rows.all (m.texts s.here s.around ps fs)

abbrev pub members : Sight → PropertyTrees → List Frame → Reads (List Member)
members s ps fs = rows.all (m.members s.here s.around ps fs)

-- a hole, and a member
abbrev pub hole : Sight → PieceTree → List Frame → Reads (List ℕ)
hole s p fs = m.printed_before p.1 (value s p.0 fs)

abbrev pub member : Sight → PropertyTree → List Frame → Reads Member
member s p fs = m.member_of p.1 (value_of s p.2 fs)

-- loops and calls
abbrev pub looping : Sight → Reads Json → SourceTree → List Frame → Reads Json
looping s xs body fs = frames.looped xs (λ f. value s body (f ∷ fs))

abbrev pub each : Sight → (List Frame → Reads Json) → SourceTree → List Frame → Reads Json
each s xs body fs = looping s (xs fs) body fs

abbrev pub call : Sight → List ℕ → SourceTrees → List Frame → Reads Json
call s name es fs = rows.called s.here.place name (m.values s.here s.around es fs)

abbrev pub first_there : Sight → SourceTrees → List Frame → Reads Json
first_there s es fs = rows.first_there (m.values s.here s.around es fs)

-- operators, by what their first operand is
abbrev pub binary : Sight → Operator → (List Frame → Reads Json) → SourceTree → List Frame → Reads Json
binary s o x y fs = rows.operated o (x fs) (value s y fs)

-- `&&` goes on where the first is true, `||` where it is false
abbrev pub decided_by : Bool → Reads Json → Reads Json → Reads Json
decided_by true x y = rows.and_value x y
decided_by false x y = rows.or_value x y

abbrev pub decided : Sight → Bool → (List Frame → Reads Json) → SourceTree → List Frame → Reads Json
decided s goes x y fs = decided_by goes (x fs) (value s y fs)

abbrev pub coalesced : Sight → (List Frame → Reads Json) → SourceTree → List Frame → Reads Json
coalesced s x y fs = rows.coalesce_value (x fs) (value s y fs)
