-- Members that are put among others.
use Rattle.std.proofs.Common.{◌≡◌, List, [], ◌∷◌, ◌++◌, Less, Greater, encode_utf8_all, refl, ap, ◌∙◌}
use Rattle.std.proofs.lemmas.Cmp.{nat_list_cmp_total}
use Rattle.std.specs.Ordering.{ordering_reverse}
use Rattle.std.specs.List.{AllByRecursion}
use Rattle.std.specs.List.Sorted.{IsStrictlySortedBy}
use Rattle.arm_value.specs.Json.{Member, keys, key_cmp, put, put_each, IsInOrder}

pub put_each-append : (ls ms ns : List Member) → put_each ls (ms ++ ns) ≡ put_each (put_each ls ms) ns
put_each-append ls [] ns = refl
put_each-append ls (m ∷ ms) ns = put_each-append (put m.0 m.1 ls) ms ns

-- a member whose key is below all that are put stays in front
pub front_stays : (m : Member) (ms ns : List Member) → AllByRecursion (λ y. key_cmp m.0 y ≡ Less) (keys ns)
    → put_each (m ∷ ms) ns ≡ m ∷ put_each ms ns
front_stays m ms [] h = refl
front_stays m ms (n ∷ ns) h =
    let above : key_cmp n.0 m.0 ≡ Greater = nat_list_cmp_total.antisymm (encode_utf8_all n.0) (encode_utf8_all m.0)
    ∙ ap ordering_reverse h.0 in
    rw above (front_stays m (put n.0 n.1 ms) ns h.1)

-- members in order, all put among none, are themselves
pub put_each-ordered : (ms : List Member) → IsInOrder ms → put_each [] ms ≡ ms
unfolding IsStrictlySortedBy
put_each-ordered [] o = refl
put_each-ordered (m ∷ ms) o = front_stays m [] ms o.0 ∙ ap (λ r. m ∷ r) (put_each-ordered ms o.1)
