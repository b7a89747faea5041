use Rattle.std.proofs.Common.{List, chars, codes, ap, arith}
use Rattle.arm_value.specs.Json.{Member, put}
use Rattle.provider_trait.specs.Plain.{object_of}
use Rattle.provider_trait.proofs.PlainLemmas.{endpoints_few, if_field}
use Rattle.provider_trait.proofs.plain.with_primary.Goals as goal

pub with_value-requires : goal.with_value-requires
with_value-requires c = omega (arith, endpoints_few c.args.name.now _ c.in-Ok.ensures)

pub returns-in-Ok : goal.returns-in-Ok
returns-in-Ok c =
    if_field (λ (ms : List Member). ms) c.with_value.result _ _
    (ap (λ (es : List Member). put (chars (codes "primaryEndpoints")) (object_of es) c.args.properties)
    c.in-Ok.ensures) c.with_value.ensures
