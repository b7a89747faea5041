use Rattle.std.proofs.Common.{◌≡◌, ◌++◌, ◌∷◌, []}
use Rattle.std.specs.Prelude.{option_map}
use Rattle.foundation.proofs.Options.{if_ok}
use Rattle.template_tree.specs.View.{resource_tree, template_tree}
use Rattle.file_resources.specs.Built.{IsGrown}
use Rattle.file_resources.proofs.listing.with_part.Goals as goal

pub returns-in-Ok : goal.returns-in-Ok
returns-in-Ok c =
    let o = option_map template_tree c.args.template in
    let r = resource_tree c.in-Ok.part in
    if_ok (λ rs. rs ≡ c.args.all ++ r ∷ [])
    (IsGrown c.args.form c.args.table.now c.args.metadata.now c.args.number o c.args.all) c.added.result
    c.added.ensures (λ rs e. (r, ((c.in-Ok.ensures.built, c.in-Ok.ensures.metadata), e)))
