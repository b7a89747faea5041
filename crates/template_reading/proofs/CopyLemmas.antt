-- Copies of values that may be missing.
use Rattle.std.proofs.Common.{◌≡◌, List, Some, ap, ◌∙◌}
use Rattle.arm_value.specs.Json.{Json, Member}
use Rattle.arm_value.specs.View.{json}
use Rattle.arm_value.specs.declared.value.Value.{Value}
use Rattle.arm_value.specs.declared.value.Value.TheVariants as value
use Rattle.arm_value.proofs.TreeLemmas.{members-pairs}
use Rattle.template_meaning.specs.Values.{Place, value_in, items_in, members_in}
use Rattle.template_meaning.proofs.ValueLemmas.{value_back}
use Rattle.arm_value.proofs.SameLemmas.{items-row}

-- the value of a place
pub value_at : (o : Place) (v : Value) → o ≡ Some (json v) → value_in o ≡ v
value_at o v e = ap value_in e ∙ value_back v

-- the items of the array at a place
pub items_at : (o : Place) (v : Value) (js : List Json) → o ≡ Some (json v) → v ≡ value.Array js → items_in o ≡ js
items_at o v js e f = ap items_in (e ∙ ap (λ w. Some (json w)) f) ∙ items-row js

-- the members of the object at a place
pub members_at : (o : Place) (v : Value) (ms : List Member) → o ≡ Some (json v) → v ≡ value.Object ms
    → members_in o ≡ ms
members_at o v ms e f = ap members_in (e ∙ ap (λ w. Some (json w)) f) ∙ members-pairs ms
