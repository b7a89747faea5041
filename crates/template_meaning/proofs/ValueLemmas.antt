-- Values of the code and their trees.
use Rattle.std.proofs.Common.{◌≡◌, refl, ap}
use Rattle.arm_value.specs.Json.{Json, null, bool, int, text, array, object}
use Rattle.arm_value.specs.View.{json}
use Rattle.arm_value.specs.declared.value.Value.{Value}
use Rattle.arm_value.specs.declared.value.Value.TheVariants as value
use Rattle.arm_value.proofs.TreeLemmas.{row-items, members-pairs, pairs-members}
use Rattle.template_meaning.specs.Values.{value_of}
use Rattle.arm_value.proofs.SameLemmas.{items-row}

-- a value is the one of its tree
pub value_back : (v : Value) → value_of (json v) ≡ v
value_back value.Null = refl
value_back (value.Bool b) = refl
value_back (value.Int z) = refl
value_back (value.Text t) = refl
value_back (value.Array js) = ap (λ l. value.Array l) (items-row js)
value_back (value.Object ms) = ap (λ l. value.Object l) (members-pairs ms)

-- a tree is that of its value
pub tree_back : (j : Json) → json (value_of j) ≡ j
tree_back null = refl
tree_back (bool b) = refl
tree_back (int z) = refl
tree_back (text t) = refl
tree_back (array js) = ap array (row-items js)
tree_back (object ms) = ap object (pairs-members ms)
