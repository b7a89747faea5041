use Rattle.std.proofs.Common.{◌≡◌, ◌∙◌, ◌+◌, ◌^◌, ap, sym, length, arith, length-append, ◌∷◌, [], ◌/◌, ◌%◌, ◌<◌, ℕ}
use Rattle.std.proofs.Common.{Fits, w64}
use Rattle.std.specs.Fmt.{decimal}
use Rattle.std.proofs.lemmas.Fmt.{decimal_digit, decimal_step, length-decimal-le}
use Rattle.emitted_sizes.proofs.literals.+digits.Goals as goal

pub returns-then-n-lt10-clause-count : goal.returns-then-n-lt10-clause-count
returns-then-n-lt10-clause-count t c = sym (ap length (decimal_digit c.args.n c.if-n-lt10.true))

ten_to_20 : (n : ℕ) → n < 2 ^ 64 → n < 10 ^ 20
ten_to_20 n h = omega arith

below : (n : ℕ) → Fits w64 n → n < 2 ^ 64
below n f = omega (arith, f)

pub returns-else-n-lt10-clause-count : goal.returns-else-n-lt10-clause-count
returns-else-n-lt10-clause-count t c =
    let n = c.args.n in
    let step : length (decimal n) ≡ length (decimal (n / 10)) + 1 =
    ap length (decimal_step n c.if-n-lt10.false (below n c.ranges.n))
    ∙ length-append (decimal (n / 10)) ((48 + n % 10) ∷ []) in
    omega (arith, step, c.digits.ensures.count)

pub returns-else-n-lt10-clause-few : goal.returns-else-n-lt10-clause-few
returns-else-n-lt10-clause-few t c =
    let n = c.args.n in
    omega (
      arith,
      returns-else-n-lt10-clause-count t c,
      length-decimal-le 20 n (omega arith) (ten_to_20 n (below n c.ranges.n)) (below n c.ranges.n),
    )
