use Rattle.std.proofs.Common.{◌∙◌, ◌++◌, ◌∷◌, [], ℕ, List, ap, sym, map}
use Rattle.arm_value.specs.View.{json, entry, member}
use Rattle.arm_value.proofs.GatherLemmas.{append_one}
use Rattle.function_lists.proofs.values.in_order.Goals as goal
use Rattle.foundation.proofs.Lists.{map-push}

pub loop-name-preserved : goal.loop-name-preserved
loop-name-preserved c =
    let so_far = map member c.loop-name.members.items in
    let left = map entry c.next.new.self in
    let value = json c.in-Some.value in
    let grown = ap (map member) c.in_ok-push.ensures.items ∙ map-push member c.loop-name.members.items _
    ∙ ap (λ (n : List ℕ). so_far ++ (n, value) ∷ []) c.from_string.ensures.characters in
    c.loop-name.invariant ∙ ap (λ es. so_far ++ map entry es) c.in-Some.ensures.steps
    ∙ append_one so_far left (entry (c.in-Some.name, c.in-Some.value)) ∙ ap (λ r. r ++ left) (sym grown)
