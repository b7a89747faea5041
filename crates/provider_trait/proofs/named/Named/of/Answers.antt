use Rattle.provider_trait.specs.declared.named.Named.{Named}
use Rattle.provider_trait.proofs.PlainLemmas.{nothing_named, if_field}
use Rattle.provider_trait.proofs.named.Named.of.Goals as goal

pub returns-in-Err-NotAnId-clause-kind : goal.returns-in-Err-NotAnId-clause-kind
returns-in-Err-NotAnId-clause-kind c =
    if_field (λ (n : Named). n.kind) c.nameless.result _ _
    (nothing_named c.args.id.now _ c.in-Err-NotAnId.field-0 c.as_str.ensures.characters
    c.in-Err-NotAnId.field-0-is c.in-Err-NotAnId.ensures.fault).0 c.nameless.ensures.kind

pub returns-in-Err-NotAnId-clause-name : goal.returns-in-Err-NotAnId-clause-name
returns-in-Err-NotAnId-clause-name c =
    if_field (λ (n : Named). n.name) c.nameless.result _ _
    (nothing_named c.args.id.now _ c.in-Err-NotAnId.field-0 c.as_str.ensures.characters
    c.in-Err-NotAnId.field-0-is c.in-Err-NotAnId.ensures.fault).1 c.nameless.ensures.name
