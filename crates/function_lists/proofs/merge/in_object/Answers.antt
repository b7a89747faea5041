use Rattle.std.proofs.Common.{◌∙◌, ◌++◌, ap, map, subst}
use Rattle.std.specs.Vec.Iter.{into_iter_items}
use Rattle.arm_value.specs.Json.{IsInOrder}
use Rattle.arm_value.specs.View.{member}
use Rattle.arm_value.proofs.GatherLemmas.{front_in_order, append_one}
use Rattle.function_lists.proofs.ValueLemmas.{nests_among}
use Rattle.function_lists.proofs.merge.in_object.Goals as goal

pub push_last-requires-clause-nests : goal.push_last-requires-clause-nests
push_last-requires-clause-nests c =
    let all = c.loop-field.invariant ∙ ap (λ fs. c.loop-field.fields ++ map member fs) c.in-Some.ensures.steps.0 in
    nests_among _ c.loop-field.fields (map member (into_iter_items c.next.new.self)) (member c.in-Some.field)
    c.requires.nests all

pub push_last-requires-clause-last : goal.push_last-requires-clause-last
push_last-requires-clause-last c =
    let left = map member (into_iter_items c.next.new.self) in
    let all = c.loop-field.invariant ∙ ap (λ fs. c.loop-field.fields ++ map member fs) c.in-Some.ensures.steps.0 in
    front_in_order _ left
    (subst IsInOrder (all ∙ append_one c.loop-field.fields left (member c.in-Some.field)) c.requires.ordered)
