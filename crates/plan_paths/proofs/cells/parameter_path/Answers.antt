use Rattle.std.proofs.Common.{◌∙◌, ap, get_or, refl}
use Rattle.foundation.proofs.Options.{if_ok}
use Rattle.plan_paths.proofs.NamedLemmas.{parameter_found}
use Rattle.plan_paths.proofs.cells.parameter_path.Goals as goal

pub returns : goal.returns
returns c =
    if_ok _ _ c.named_path.result c.named_path.ensures (λ p e.
    e ∙ parameter_found c.args.table.now c.args.frame c.requires.laid c.requires.names_differ c.requires.spot.there
    _ refl c.args.number
    (get_or c.as_slice-parameters.result.now c.args.number c.index-parameters-number.result)
    c.index.result.now c.as_slice-parameters.result.now
    c.requires.spot.declared.1 c.index.ensures c.as_slice-parameters.ensures
    (ap (λ z. get_or c.as_slice-parameters.result.now c.args.number z) c.index-parameters-number.is))
