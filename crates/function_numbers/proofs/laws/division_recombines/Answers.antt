use Rattle.std.proofs.Common.{◌≡◌, ℤ, ◌+ℤ◌, ◌*ℤ◌, Bool, true, false, Some, None, option_map}
use Rattle.std.specs.Prelude.{int_div, int_rem, if◌then◌else◌}
use Rattle.std.proofs.lemmas.Int.{quot-rem}
use Rattle.arm_value.specs.Json.{int}
use Rattle.function_numbers.specs.Numbers.{is_zero, has_64_bits}
use Rattle.function_numbers.proofs.laws.division_recombines.Goals as goal

recombine : (zero fits : Bool) (x y q r : ℤ)
    → option_map int (if zero then None else (if fits then Some (int_div x y) else None)) ≡ Some (int q)
    → option_map int (if zero then None else Some (int_rem x y)) ≡ Some (int r) → ((q *ℤ y) +ℤ r) ≡ x
recombine true fits x y q r a b = absurd (cc)
recombine false true x y q r a b =
    let is_q : q ≡ int_div x y = cc in
    let is_r : r ≡ int_rem x y = cc in
    rw (is_q, is_r) (quot-rem x y)
recombine false false x y q r a b = absurd (cc)

pub returns : goal.returns
returns c x y q r a b = recombine (is_zero y) (has_64_bits (int_div x y)) x y q r a b
