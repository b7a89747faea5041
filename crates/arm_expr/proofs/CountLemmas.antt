-- The number of characters of a text and that of its bytes.
use Rattle.std.proofs.Common.{◌<◌, ◌≤◌, ℕ, List, length, nat_lt, sym, subst, ap, arith}
use Rattle.std.specs.Prelude.{MatchBool}
use Rattle.std.specs.Str.{chars, IsUtf8}
use Rattle.std.proofs.lemmas.Str.{length-le-encodes, encodes-chars}
use Rattle.std.proofs.lemmas.Bool.{le-ltb}

-- a text has no more characters than bytes
pub no_longer : (most : ℕ) (bs : List ℕ) → IsUtf8 bs → length bs ≤ most
    → MatchBool (nat_lt most (length bs)) (most < length (chars bs)) (length (chars bs) ≤ most)
no_longer most bs u l =
    subst (λ b. MatchBool b (most < length (chars bs)) (length (chars bs) ≤ most))
    (sym (le-ltb most (length bs) l))
    (omega (arith, l, length-le-encodes (chars bs), ap length (encodes-chars bs u)))
