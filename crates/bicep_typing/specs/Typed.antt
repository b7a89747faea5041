-- What has a type, or the place of the first part that does not fit: an offset in the source, in bytes.
use Rattle.std.specs.Prelude.{ℕ, Result, Ok, Err, Option, Some, None, if◌then◌else◌}
use Rattle.bicep_signatures.specs.declared.kinds.Kinds.{Kinds}
use Rattle.bicep_signatures.specs.declared.value_type.ValueType.{ValueType}
use Rattle.bicep_signatures.specs.Kinds.{fits}

-- a type, or the place of the first part that does not fit
abbrev pub Typed : Type 0
Typed = Result ValueType ℕ

-- that all parts fit, or the place of the first that does not
abbrev pub Fitting : Type 0
Fitting = Result (Unit {0}) ℕ

abbrev pub all_fit : Fitting
all_fit = Ok tt

-- the second, where the first fits
abbrev pub before : {A B : Type 0} → Result A ℕ → Result B ℕ → Result B ℕ
before (Ok x) r = r
before (Err at) r = Err at

-- this type, where the parts fit
abbrev pub always : {A : Type 0} → ValueType → Result A ℕ → Typed
always t (Ok x) = Ok t
always t (Err at) = Err at

-- the type, where it fits the kinds that are taken at a place
abbrev pub wanted : Kinds → ℕ → Typed → Typed
wanted k at (Ok t) = if fits k t then Ok t else Err at
wanted k at (Err fault) = Err fault

-- the type, or a place where there is none
abbrev pub or_place : Option ValueType → ℕ → Typed
or_place (Some t) at = Ok t
or_place None at = Err at
