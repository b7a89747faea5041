use Rattle.std.proofs.Common.{[], codes, refl}
use Rattle.arm_expr.specs.Tree.{text}
use Rattle.arm_ids.specs.Members.{deployment_type}
use Rattle.emitted_dependencies.proofs.measured.deployment_extent.Goals as goal

pub returns : goal.returns
returns g c =
    let w = g.K.Sizes.sight c.args.sizes.now in
    c.call_two.ensures (codes "resourceId") (text deployment_type) (w.scope.name c.args.number []) refl
    (c.word.ensures refl) (c.name.ensures [] tt)
