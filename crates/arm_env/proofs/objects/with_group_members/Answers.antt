use Rattle.std.proofs.Common.{◌≡◌, ◌∙◌, [], codes}
use Rattle.arm_value.specs.Json.{text, object, pairs, put}
use Rattle.arm_env.specs.Object.{object_of, group_properties}
use Rattle.arm_env.proofs.Words.{word_tags, word_type, word_groups}
use Rattle.arm_env.proofs.objects.with_group_members.Goals as goal

pub returns : goal.returns
returns c =
    let tags : c.in_ok-fields-2.fields
    ≡ put (codes "tags") (object_of []) (put (codes "properties") group_properties c.args.fields) =
    c.in_ok-fields-2.ensures
    ∙ (λ i. put (word_tags i) (object (pairs (c.new.ensures i))) (c.in_ok-fields.ensures i)) in
    c.in_ok-fields-3.ensures ∙ (λ i. put (word_type i) (text (word_groups i)) (tags i))
