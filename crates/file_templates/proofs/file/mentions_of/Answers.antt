use Rattle.std.proofs.Common.{sym, subst}
use Rattle.bicep_circles.specs.Links.{links}
use Rattle.bicep_circles.specs.Orders.{IsLinkOrder}
use Rattle.bicep_checks.proofs.KindLemmas.{same_file}
use Rattle.file_templates.proofs.TextLemmas.{mentions_are}
use Rattle.file_templates.proofs.file.mentions_of.Goals as goal

pub dependencies-requires : goal.dependencies-requires
dependencies-requires c =
    subst (λ ls. IsLinkOrder ls c.args.order.now)
    (sym (same_file links c.args.file.now c.as_slice.result.now c.as_slice-2.result.now c.as_slice.ensures.value
    c.as_slice-2.ensures.value)) c.requires

pub returns : goal.returns
returns c =
    mentions_are c.args.file.now c.as_slice.result.now c.as_slice-2.result.now c.as_slice.ensures.value
    c.as_slice-2.ensures.value c.dependencies.result c.dependencies.ensures.each
