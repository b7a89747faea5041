-- Loops over fields.
use Rattle.std.proofs.Common.{◌≡◌, ℕ, ◌+◌, ◌*◌, ◌≤◌, true, false, ◌&&◌, List, [], ◌∷◌, Option, Some, None}
use Rattle.std.proofs.Common.{bytes_eq, cond, sym, ap, ◌∙◌, ◌<◌, arith, nat_le, Bor}
use Rattle.std.specs.List.{list_all}
use Rattle.std.specs.Char.{digit_value}
use Rattle.std.specs.Str.Parse.{digits_value, digits_value_after}
use Rattle.foundation.proofs.Comparisons.{le_false}
use Rattle.foundation.proofs.Words.{itself}
use Rattle.http_heads.specs.Fields.{agreed, bounded, is_number, sized}
use Rattle.http_heads.specs.declared.fields.BodyLength.TheVariants.{Bad, Bytes, TooLarge}

-- the value that was found, if there is one
abbrev pub kept : Option (Bor (List ℕ)) → List (List ℕ)
kept None = []
kept (Some value) = value.now ∷ []

-- a value that is spelled as the first one changes nothing
pub agreed_again : (v : List ℕ) (vs : List (List ℕ)) → agreed (v ∷ v ∷ vs) ≡ agreed (v ∷ vs)
agreed_again v vs = ap (λ b. cond (b && list_all (bytes_eq v) vs) (sized v) Bad) (itself v)

-- a value that is spelled otherwise makes it bad
pub disagreed : (v w : List ℕ) (vs : List (List ℕ)) → bytes_eq v w ≡ false → agreed (v ∷ w ∷ vs) ≡ Bad
disagreed v w vs e = ap (λ b. cond (b && list_all (bytes_eq v) vs) (sized v) Bad) e

-- digits make a number no smaller
pub value_grows : (n : ℕ) (ds : List ℕ) → n ≤ digits_value_after 10 n ds
value_grows n [] = omega arith
value_grows n (d ∷ ds) = omega (arith, value_grows (n * 10 + digit_value d) ds)

-- a number that is too large after some of its digits is too large
pub too_large : (value rest : List ℕ) (n : ℕ) → is_number value ≡ true
    → digits_value_after 10 n rest ≡ digits_value 10 value → 4194304 < n → TooLarge ≡ sized value
unfolding sized
too_large value rest n number same over =
    let large : nat_le (digits_value 10 value) 4194304 ≡ false =
    le_false (digits_value 10 value) 4194304 (omega (arith, value_grows n rest, same)) in
    sym (ap (λ b. cond b (bounded (digits_value 10 value)) Bad) number
    ∙ ap (λ b. cond b (Bytes (digits_value 10 value)) TooLarge) large)
