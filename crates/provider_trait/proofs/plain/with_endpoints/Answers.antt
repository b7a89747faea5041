use Rattle.std.proofs.Common.{◌∙◌, List, codes, refl, ap, sym}
use Rattle.arm_value.specs.Json.{Member, put}
use Rattle.foundation.proofs.AsciiWords.{word}
use Rattle.provider_trait.specs.Plain.{object_of, endpoints, with_endpoints}
use Rattle.provider_trait.proofs.PlainLemmas.{if_field}
use Rattle.provider_trait.proofs.plain.with_endpoints.Goals as goal

pub returns-then-is_storage : goal.returns-then-is_storage
returns-then-is_storage c =
    let name = c.args.named.now.name in
    if_field (λ (ms : List Member). ms) c.with_primary.result _ _
    (ap (λ n. put n (object_of (endpoints name)) c.args.properties) (word (codes "primaryEndpoints") refl)
    ∙ ap (λ b. with_endpoints b name c.args.properties) (sym (sym c.is_storage.ensures ∙ c.if-is_storage.true)))
    c.with_primary.ensures

pub returns : goal.returns
returns c = ap (λ b. with_endpoints b c.args.named.now.name c.args.properties)
    (sym (sym c.is_storage.ensures ∙ c.if-is_storage.false))
