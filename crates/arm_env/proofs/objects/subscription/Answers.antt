use Rattle.std.proofs.Common.{◌∙◌, ap, codes, chars}
use Rattle.arm_value.specs.Json.{text, put}
use Rattle.arm_env.proofs.HeldLemmas.{subscription_put}
use Rattle.arm_env.proofs.objects.subscription.Goals as goal

pub returns : goal.returns
returns c =
    subscription_put _ _ c.new.result c.in_ok-fields.fields c.in_ok-fields-2.fields
    c.new.ensures
    (c.in_ok-fields.ensures
    ∙ ap (λ t. put (chars (codes "id")) (text t) c.new.result)
    (c.from_string-id.ensures.characters ∙ c.in_ok-subscription_text.ensures))
    c.in_ok-fields-2.ensures
