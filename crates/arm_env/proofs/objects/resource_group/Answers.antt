use Rattle.std.proofs.Common.{◌∙◌, ap, codes, chars}
use Rattle.arm_value.specs.Json.{text, put}
use Rattle.arm_env.proofs.HeldLemmas.{group_put}
use Rattle.arm_env.proofs.objects.resource_group.Goals as goal

pub returns : goal.returns
returns c =
    group_put _ _ _ c.new.result c.in_ok-fields.fields c.in_ok-fields-2.fields
    c.in_ok-fields-3.fields c.in_ok-fields-4.fields c.new.ensures
    (c.in_ok-fields.ensures
    ∙ ap (λ t. put (chars (codes "id")) (text t) c.new.result) c.in_ok-id.ensures)
    c.in_ok-fields-2.ensures c.in_ok-fields-3.ensures c.in_ok-fields-4.ensures
