-- The functions that a file may call: the kinds of their arguments, and the type of their values (Microsoft Learn,
-- "Bicep functions").
use Rattle.std.specs.Prelude.{ℕ, codes, List, [], ◌∷◌, Option, Some, None, if◌then◌else◌}
use Rattle.arm_value.specs.Look.{is_same_folded}
use Rattle.arm_functions.specs.Table.{counts}
use Rattle.arm_functions.specs.Values.{admits}
use Rattle.bicep_signatures.specs.declared.kinds.Kinds.{Kinds}
use Rattle.bicep_signatures.specs.declared.kinds.Kinds.TheVariants as k
use Rattle.bicep_signatures.specs.declared.signature.Signature.{Signature}
use Rattle.bicep_signatures.specs.declared.signature.Signatures.{Signatures}
use Rattle.bicep_signatures.specs.declared.value_type.ValueType.{ValueType}
use Rattle.bicep_signatures.specs.declared.value_type.ValueType.TheVariants as t

-- the kinds of the first argument, of the second and of each further one, and the type of the values
abbrev pub taking : Kinds → Kinds → Kinds → ValueType → Signature
taking a b c x = record { first = a; second = b; rest = c; value = x }

-- a function without arguments, of one, of two, and of arguments that are all of the same kinds
abbrev pub constant : ValueType → Signature
constant x = taking k.Nothing k.Nothing k.Nothing x

abbrev pub unary : Kinds → ValueType → Signature
unary a x = taking a k.Nothing k.Nothing x

abbrev pub binary : Kinds → Kinds → ValueType → Signature
binary a b x = taking a b k.Nothing x

abbrev pub each : Kinds → ValueType → Signature
each a x = taking a a a x

-- one way, one of two, and one of three
abbrev pub only : Signature → Signatures
only a = record { one = Some a; two = None; three = None }

abbrev pub either : Signature → Signature → Signatures
either a b = record { one = Some a; two = Some b; three = None }

abbrev pub one_of : Signature → Signature → Signature → Signatures
one_of a b c = record { one = Some a; two = Some b; three = Some c }

-- The functions and the ways to call them. How many arguments each takes is in the table of `arm_functions`. Where the
-- values are of several types, the type is Any.
unfoldable pub table : List (List ℕ × Signatures)
table =
    (codes "min", either (each k.Int t.Int) (unary k.Array t.Int)) ∷
    (codes "max", either (each k.Int t.Int) (unary k.Array t.Int)) ∷
    (codes "int", only (unary k.TextOrInt t.Int)) ∷
    (codes "range", only (binary k.Int k.Int t.Array)) ∷
    (codes "concat", only (each k.Anything t.Any)) ∷
    (codes "format", only (taking k.Text k.Anything k.Anything t.Text)) ∷
    (codes "toLower", only (unary k.Text t.Text)) ∷
    (codes "toUpper", only (unary k.Text t.Text)) ∷
    (codes "trim", only (unary k.Text t.Text)) ∷
    (codes "substring", only (taking k.Text k.Int k.Int t.Text)) ∷
    (codes "replace", only (each k.Text t.Text)) ∷
    (codes "split", only (binary k.Text k.TextOrArray t.Array)) ∷
    (codes "join", only (binary k.Array k.Text t.Text)) ∷
    (codes "startsWith", only (binary k.Text k.Text t.Bool)) ∷
    (codes "endsWith", only (binary k.Text k.Text t.Bool)) ∷
    (codes "indexOf", either (binary k.Text k.Text t.Int) (binary k.Array k.Anything t.Int)) ∷
    (codes "lastIndexOf", either (binary k.Text k.Text t.Int) (binary k.Array k.Anything t.Int)) ∷
    (codes "length", only (unary k.TextObjectOrArray t.Int)) ∷
    (codes "empty", only (unary k.AllButIntAndBool t.Bool)) ∷ (
      codes "contains",
      one_of (binary k.Text k.Text t.Bool) (binary k.Array k.Anything t.Bool)
          (binary k.Object k.Text t.Bool),
    ) ∷
    (codes "padLeft", only (taking k.TextOrInt k.Int k.Text t.Text)) ∷
    (codes "string", only (unary k.Anything t.Text)) ∷
    (codes "base64", only (unary k.Text t.Text)) ∷
    (codes "base64ToString", only (unary k.Text t.Text)) ∷
    (codes "array", only (unary k.Anything t.Array)) ∷
    (codes "first", only (unary k.TextOrArray t.Any)) ∷
    (codes "last", only (unary k.TextOrArray t.Any)) ∷
    (codes "skip", only (binary k.TextOrArray k.Int t.Any)) ∷
    (codes "take", only (binary k.TextOrArray k.Int t.Any)) ∷
    (codes "union", either (each k.Array t.Array) (each k.Object t.Object)) ∷
    (codes "intersection", either (each k.Array t.Array) (each k.Object t.Object)) ∷
    (codes "flatten", only (unary k.Array t.Array)) ∷
    (codes "json", only (unary k.Text t.Any)) ∷
    (codes "items", only (unary k.Object t.Array)) ∷
    (codes "objectKeys", only (unary k.Object t.Array)) ∷
    (codes "bool", only (unary k.TextIntOrBool t.Bool)) ∷
    (codes "uniqueString", only (each k.Text t.Text)) ∷
    (codes "guid", only (each k.Text t.Text)) ∷
    (codes "coalesce", only (each k.Anything t.Any)) ∷
    (codes "resourceId", only (each k.Text t.Text)) ∷
    (codes "subscriptionResourceId", only (each k.Text t.Text)) ∷
    (codes "resourceGroup", only (constant t.Object)) ∷
    (codes "subscription", only (constant t.Object)) ∷
    (codes "deployment", only (constant t.Object)) ∷ []

abbrev pub or_else : Option Signatures → Option Signatures → Option Signatures
or_else (Some w) o = Some w
or_else None o = o

-- the ways of a row, where it has the name, whatever the case of its letters
abbrev pub ways_in : List ℕ → List ℕ × Signatures → Option Signatures
ways_in name r = if is_same_folded name r.0 then Some r.1 else None

-- the ways of the first row of this name
abbrev pub signatures_in : List ℕ → List (List ℕ × Signatures) → Option Signatures
signatures_in name [] = None
signatures_in name (r ∷ rs) = or_else (ways_in name r) (signatures_in name rs)

abbrev pub where_counted : Option (ℕ × Option ℕ) → ℕ → Option Signatures → Option Signatures
where_counted (Some c) n o = if admits c.0 c.1 n then o else None
where_counted None n o = None

-- the ways to call the function of that name with so many arguments; none where no file may call it so
unfoldable pub signatures_of : List ℕ → ℕ → Option Signatures
signatures_of name n = where_counted (counts name) n (signatures_in name table)
