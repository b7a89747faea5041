-- Arrays that have items, and what two failed tests choose.
use Rattle.std.proofs.Common.{◌≡◌, ◌≤◌, Bool, List, [], ◌∷◌, length, map, true, false, sym, ap, ◌∙◌, arith}
use Rattle.std.specs.Prelude.{if◌then◌else◌}
use Rattle.arm_value.specs.Json.{Json, array, row}
use Rattle.arm_value.specs.View.{json}
use Rattle.arm_value.specs.declared.value.Value.{Value}
use Rattle.template_members.specs.Arguments.{has_item}

pub some_items : (vs : List Value) (js : List Json) → map json vs ≡ js → 1 ≤ length vs
    → true ≡ has_item (array (row js))
some_items [] js e h = absurd (omega arith)
some_items (v ∷ vs) js e h = ap (λ js. has_item (array (row js))) e

pub neither : {A : Type 0} (a b : Bool) (x y z : A) → a ≡ false → b ≡ false
    → z ≡ (if a then x else (if b then y else z))
neither a b x y z p q =
    sym (ap (λ a. if a then x else (if b then y else z)) p ∙ ap (λ b. if b then y else z) q)
