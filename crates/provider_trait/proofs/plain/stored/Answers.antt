use Rattle.std.proofs.Common.{◌∙◌, ap}
use Rattle.provider_trait.specs.Plain.{state_named}
use Rattle.provider_trait.specs.declared.answer.Answer.TheVariants.{Stored}
use Rattle.provider_trait.proofs.PlainLemmas.{body_few}
use Rattle.provider_trait.proofs.plain.stored.Goals as goal

pub state_of-requires : goal.state_of-requires
state_of-requires c =
    body_few c.args.job.now.act c.args.job.now.body _ c.requires c.body.ensures.fits c.body.ensures.body

pub returns-in-Ok : goal.returns-in-Ok
returns-in-Ok c =
    ap Stored (c.in-Ok.ensures.ok ∙ c.in_ok-value.ensures.state
    ∙ (λ i. state_named c.args.named.now.kind c.args.named.now.name (c.id.ensures i) (c.api.ensures i)
    (c.body.ensures.body i)))
