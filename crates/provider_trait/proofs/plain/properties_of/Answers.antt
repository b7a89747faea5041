use Rattle.std.proofs.Common.{◌∙◌, ap, codes, refl}
use Rattle.arm_value.specs.View.{json}
use Rattle.arm_value.specs.Look.{look}
use Rattle.provider_trait.specs.Plain.{members_found}
use Rattle.foundation.proofs.AsciiWords.{word}
use Rattle.provider_trait.proofs.PlainLemmas.{properties_made}
use Rattle.provider_trait.proofs.plain.properties_of.Goals as goal

pub returns : goal.returns
returns c =
    properties_made c.args.named.now.kind c.args.named.now.name (json c.args.body.now) _ _ _ _ _
    (c.in_ok-found.ensures ∙ ap members_found (c.look.ensures
    ∙ ap (λ n. look n (json c.args.body.now)) (word (codes "properties") refl))) c.in_ok-provisioned.ensures
    c.in_ok-with_endpoints.ensures (word (codes "provisioningState") refl) (word (codes "Succeeded") refl)
