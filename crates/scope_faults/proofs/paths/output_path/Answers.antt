use Rattle.std.proofs.Common.{◌∙◌, ap, get_or, refl}
use Rattle.std.specs.Prelude.{codes}
use Rattle.foundation.proofs.Options.{if_ok}
use Rattle.plan_table.specs.Whole.{whole_of}
use Rattle.plan_paths.specs.Resources.{below}
use Rattle.plan_paths.proofs.NamedLemmas.{output_found}
use Rattle.plan_sight.proofs.LookLemmas.{scopes_there}
use Rattle.scope_outputs.specs.Outputs.{position_of}
use Rattle.scope_faults.specs.Faults.{output_at}
use Rattle.scope_faults.proofs.OutputLemmas.{output_cell_path}
use Rattle.scope_faults.proofs.paths.output_path.Goals as goal

pub returns : goal.returns
returns c =
    let t = c.args.table.now in
    if_ok _ _ c.below.result c.below.ensures (λ p e.
    e ∙ ap (λ x. below x (codes "value")) (c.in_ok-path.ensures
    ∙ output_found t c.args.frame c.requires.laid c.requires.names_differ
    (scopes_there t c.args.frame c.requires.there) _ refl c.args.number
    (get_or c.as_slice-outputs.result.now c.args.number c.index-outputs-number.result)
    c.index.result.now c.as_slice-outputs.result.now
    c.requires.number c.index.ensures c.as_slice-outputs.ensures
    (ap (λ z. get_or c.as_slice-outputs.result.now c.args.number z) c.index-outputs-number.is))
    ∙ output_cell_path (whole_of t).template (position_of t c.args.frame) (output_at t c.args.frame c.args.number))
