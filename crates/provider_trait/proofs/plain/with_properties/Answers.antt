use Rattle.std.proofs.Common.{List, chars, codes, ap, arith}
use Rattle.arm_value.specs.View.{json}
use Rattle.arm_value.specs.Json.{Member, put}
use Rattle.provider_trait.specs.Plain.{object_of}
use Rattle.provider_trait.proofs.PlainLemmas.{properties_few, if_field}
use Rattle.provider_trait.proofs.plain.with_properties.Goals as goal

pub with_value-requires : goal.with_value-requires
with_value-requires c =
    omega (
      arith,
      properties_few c.args.named.now.kind c.args.named.now.name (json c.args.body.now) _ c.requires c.in-Ok.ensures,
    )

pub returns-in-Ok : goal.returns-in-Ok
returns-in-Ok c =
    if_field (λ (ms : List Member). ms) c.with_value.result _ _
    (ap (λ (ps : List Member). put (chars (codes "properties")) (object_of ps) c.args.members) c.in-Ok.ensures)
    c.with_value.ensures
