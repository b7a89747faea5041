use Rattle.std.proofs.Common.{sym, ap, ◌∙◌}
use Rattle.arm_ids.specs.Segments.{joined}
use Rattle.arm_ids.specs.declared.id.ResourceId.{ResourceId}
use Rattle.plan_listing.proofs.KeyLemmas.{wanted_there, wanted_nowhere}
use Rattle.plan_listing.proofs.wanted.wanted_name.Goals as goal

pub returns-in_ok-name : goal.returns-in_ok-name
returns-in_ok-name c =
    wanted_there c.args.key.now c.args.place.now c.parts-parts.ensures.is_key c.in_ok-name.name
    (sym c.in_ok-fits.ensures ∙ c.if-branch.true)
    (c.in_ok-name.ensures ∙ ap (λ (i : ResourceId). joined i.names) c.parts-parts.ensures.parts)

pub returns-else-branch : goal.returns-else-branch
returns-else-branch c =
    wanted_nowhere c.args.key.now c.args.place.now c.parts-parts.ensures.is_key
    (sym c.in_ok-fits.ensures ∙ c.if-branch.false)
