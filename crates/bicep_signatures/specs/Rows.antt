-- What the rows of the code say.
use Rattle.std.specs.Prelude.{List, ℕ, chars, Option, Some, option_map}
use Rattle.std.specs.Borrow.{Bor}
use Rattle.bicep_signatures.specs.declared.kinds.Kinds.{Kinds}
use Rattle.bicep_signatures.specs.declared.signature.Signature.{Signature}
use Rattle.bicep_signatures.specs.declared.signature.Signatures.{Signatures}
use Rattle.bicep_signatures.specs.declared.value_type.ValueType.{ValueType}
use Rattle.bicep_signatures.specs.Table.{taking}

-- the kinds of the first argument, of the second and of each further one, and the type of the values
abbrev pub Way : Type 0
Way = Kinds × Kinds × Kinds × ValueType

abbrev pub signature : Way → Signature
signature w = taking w.0 w.1 w.2 w.3

abbrev pub ways : Way → Option Way → Option Way → Signatures
ways a b c = record { one = Some (signature a); two = option_map signature b; three = option_map signature c }

-- a row of the code's table
abbrev pub Entry : Type 0
Entry = Bor (List ℕ) × Way × Option Way × Option Way

abbrev pub row_of : Entry → List ℕ × Signatures
row_of r = (chars r.0.now, ways r.1 r.2 r.3)
