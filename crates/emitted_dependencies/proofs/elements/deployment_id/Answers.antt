use Rattle.std.proofs.Common.{[], refl}
use Rattle.arm_expr.specs.Tree.{text}
use Rattle.arm_ids.specs.Members.{deployment_type}
use Rattle.emitted_dependencies.proofs.elements.deployment_id.Goals as goal

pub returns : goal.returns
returns g c =
    c.call_two.ensures refl (text deployment_type) ((g.K.Declarations.sight c.args.declarations.now).scope.name
    c.args.number []) (c.word.ensures refl) c.name.ensures
