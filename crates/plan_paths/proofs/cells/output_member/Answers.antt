use Rattle.std.proofs.Common.{◌∙◌, ap, get_or, refl}
use Rattle.foundation.proofs.Options.{if_ok}
use Rattle.plan_paths.specs.Resources.{below}
use Rattle.plan_paths.proofs.NamedLemmas.{output_found}
use Rattle.plan_paths.proofs.cells.output_member.Goals as goal

pub returns : goal.returns
returns c =
    if_ok _ _ c.below.result c.below.ensures (λ p e.
    e ∙ ap (λ x. below x c.args.member.now) (c.in_ok-path.ensures
    ∙ output_found c.args.table.now c.args.frame c.requires.laid c.requires.names_differ c.requires.spot.there
    _ refl c.args.number
    (get_or c.as_slice-outputs.result.now c.args.number c.index-outputs-number.result)
    c.index.result.now c.as_slice-outputs.result.now
    c.requires.spot.declared c.index.ensures c.as_slice-outputs.ensures
    (ap (λ z. get_or c.as_slice-outputs.result.now c.args.number z) c.index-outputs-number.is)))
