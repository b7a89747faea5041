use Rattle.std.proofs.Common.{◌∙◌, ◌++◌, ◌∷◌, [], ap, map}
use Rattle.std.specs.Prelude.{if◌then◌else◌}
use Rattle.std.specs.List.{list_all}
use Rattle.arm_value.specs.View.{json, member}
use Rattle.function_lists.specs.Members.{is_member_of}
use Rattle.function_lists.proofs.UnionLemmas.{pass_more}
use Rattle.function_lists.proofs.unions.common.Goals as goal

pub loop-field-preserved : goal.loop-field-preserved
loop-field-preserved c =
    let kept = map member c.loop-field.all.items in
    let m = member c.field-item.result in
    pass_more (λ n. list_all (is_member_of n) (map json c.args.objects.now)) kept
    (map member c.add_passing.new.all.items) c.args.fields.now c.loop-field.field-index c.field-item.result _
    c.loop-field-test.true c.field-item.is
    (c.in_ok-add_passing.ensures ∙ ap (λ b. if b then kept ++ m ∷ [] else kept) c.is_in_all.ensures)
    c.loop-field.invariant
