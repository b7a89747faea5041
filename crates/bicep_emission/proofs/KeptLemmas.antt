-- What the cap keeps.
use Rattle.std.proofs.Common.{◌≡◌, Option, Some, None, Bool, true, false, nat_le, refl, ap}
use Rattle.std.specs.Prelude.{option_and_then, if◌then◌else◌}
use Rattle.arm_value.specs.Json.{Json, nesting}
use Rattle.expression_values.specs.Part.{kept}

abbrev pub kept_of : Option Json → Option Json
kept_of o = option_and_then kept o

kept_by : (b : Bool) (j : Json) → nat_le (nesting j) 100 ≡ b
    → kept_of (if b then Some j else None) ≡ (if b then Some j else None)
kept_by true j e = ap (λ b. if b then Some j else None) e
kept_by false j e = refl

pub kept_again : (j : Json) → kept_of (kept j) ≡ kept j
kept_again j = kept_by (nat_le (nesting j) 100) j refl

pub kept_twice : (o : Option Json) → kept_of (kept_of o) ≡ kept_of o
kept_twice (Some j) = kept_again j
kept_twice None = refl
