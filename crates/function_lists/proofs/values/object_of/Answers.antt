use Rattle.std.proofs.Common.{◌≡◌, ◌∙◌, [], ap, sym, map, option_map, subst, IfOk}
use Rattle.arm_value.specs.Json.{object, pairs, IsInOrder}
use Rattle.arm_value.specs.View.{json, member}
use Rattle.arm_value.proofs.JsonLemmas.{IsInOrder-nil}
use Rattle.function_lists.specs.Values.{capped}
use Rattle.function_lists.proofs.MergeLemmas.{put_each_in_order}
use Rattle.function_lists.proofs.ValueLemmas.{is_object_of}
use Rattle.function_lists.proofs.values.object_of.Goals as goal

pub capped_object-requires : goal.capped_object-requires
capped_object-requires c = subst IsInOrder (sym (c.in_ok-members.ensures ∙ c.in_ok-sorted.ensures))
    (put_each_in_order [] (map member c.args.members.items) IsInOrder-nil)

pub returns : goal.returns
returns c =
    let whole = c.in_ok-members.ensures ∙ c.in_ok-sorted.ensures in
    subst (λ o. IfOk c.capped_object.result (λ value. option_map json value ≡ o))
    (ap (λ ms. capped (object (pairs ms))) whole ∙ is_object_of (map member c.args.members.items))
    c.capped_object.ensures
