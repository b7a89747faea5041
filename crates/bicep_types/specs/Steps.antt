-- What the steps find.
use Rattle.std.specs.Prelude.{◌≡◌, ℕ, List, length, Option, Some, None, Result, Ok, Err}
use Rattle.std.specs.declared.vec.Vec.{Vec}
use Rattle.std.specs.declared.alloc.Global.{Global}
use Rattle.bicep_signatures.specs.declared.value_type.ValueType.{ValueType}
use Rattle.resolved_program.specs.Programs.{ResolvedFileTree}
use Rattle.bicep_checks.specs.Faults.{IsCircleOf}
use Rattle.bicep_types.specs.declared.fault.CheckFault.{CheckFault}
use Rattle.bicep_types.specs.declared.fault.CheckFault.TheVariants as fault

-- each symbol of a file has a declaration
abbrev pub HasDeclarations : ResolvedFileTree → Type 0
HasDeclarations r = length r.symbols ≡ length r.declared.declarations

-- no symbols of a file mention each other in a circle
abbrev pub HasNoCircle : ResolvedFileTree → Type 0
HasNoCircle r = (names : List (List ℕ)) → ¬ IsCircleOf names r

-- these types where no part is misplaced, else the place of the first
abbrev pub AreFound : List ValueType → Option ℕ → Result (Vec ValueType Global) ℕ → Type 0
AreFound ts place (Ok xs) = (xs.items ≡ ts) × (place ≡ None)
AreFound ts place (Err at) = place ≡ Some at

-- a part does not fit there, which is the first, or memory is out
abbrev pub IsWrongAt : Option (ℕ × ℕ) → CheckFault → Type 0
IsWrongAt place (fault.UnknownName k at) = ⊥
IsWrongAt place (fault.NameTwice k at) = ⊥
IsWrongAt place (fault.WrongType k at) = place ≡ Some (k, at)
IsWrongAt place (fault.SymbolCycle k names) = ⊥
IsWrongAt place (fault.BadDecorator k at) = ⊥
IsWrongAt place (fault.BadForPlace k at) = ⊥
IsWrongAt place (fault.MissingModuleParameter k at) = ⊥
IsWrongAt place (fault.ExtraModuleParameter k at) = ⊥
IsWrongAt place fault.OutOfMemory = Unit {0}
