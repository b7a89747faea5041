use Rattle.std.proofs.Common.{◌∙◌, ap, chars}
use Rattle.provider_trait.specs.Plain.{endpoint}
use Rattle.provider_trait.proofs.PlainLemmas.{address}
use Rattle.provider_trait.proofs.plain.endpoint.Goals as goal

pub returns : goal.returns
returns c =
    c.from_string.ensures.characters ∙ ap chars c.in_ok-address.ensures
    ∙ address c.as_str.result.now c.args.service.now c.as_str.utf8 c.utf8.service
    ∙ ap (λ n. endpoint n (chars c.args.service.now)) c.as_str.ensures.characters
