use Rattle.std.proofs.Common.{List, ℕ, chars, ap}
use Rattle.arm_value.specs.Json.{Member, put, text}
use Rattle.provider_trait.proofs.PlainLemmas.{if_field}
use Rattle.provider_trait.proofs.plain.with_endpoint.Goals as goal

pub returns-in-Ok : goal.returns-in-Ok
returns-in-Ok c =
    if_field (λ (ms : List Member). ms) c.with_value.result _ _
    (ap (λ (t : List ℕ). put (chars c.args.service.now) (text t) c.args.members) c.in-Ok.ensures)
    c.with_value.ensures
