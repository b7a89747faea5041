-- Members that are put among others, all of which are in the order of their keys.
use Rattle.std.proofs.Common.{◌≡◌, ◌≤◌, List, [], ◌∷◌, ◌++◌, refl, ap}
use Rattle.std.proofs.Common.{◌∙◌, arith}
use Rattle.std.specs.List.Sorted.{IsStrictlySortedBy}
use Rattle.arm_value.proofs.MemberLemmas.{front_stays, put_each-append}
use Rattle.arm_value.specs.Json.{Member, members_nesting, put_each, IsInOrder}

put_in_order : (ms : List Member) → IsInOrder ms → put_each [] ms ≡ ms
unfolding IsStrictlySortedBy
put_in_order [] o = refl
put_in_order (m ∷ ms) o = front_stays m [] ms o.0 ∙ ap (λ r. m ∷ r) (put_in_order ms o.1)

-- members in order and others, all put among none
pub put_after : (ms ns : List Member) → IsInOrder ms → put_each [] (ms ++ ns) ≡ put_each ms ns
put_after ms ns o = put_each-append [] ms ns ∙ ap (λ r. put_each r ns) (put_in_order ms o)

pub append_nests : (ms ns : List Member) → members_nesting ms ≤ 119 → members_nesting ns ≤ 119
    → members_nesting (ms ++ ns) ≤ 119
append_nests [] ns h g = g
append_nests (m ∷ ms) ns h g = let rest = append_nests ms ns (omega arith) g in omega arith
