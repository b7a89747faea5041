use Rattle.std.proofs.Common.{codes, refl, subst}
use Rattle.arm_expr.specs.Tree.{text}
use Rattle.bicep_emission.specs.Emitted.{parameter_of}
use Rattle.emitted_sizes.specs.Extent.{IsOf}
use Rattle.measured_expressions.proofs.fields.parameter.Goals as goal

pub returns-in-Some : goal.returns-in-Some
returns-in-Some g c =
    subst (λ o. IsOf (parameter_of o) c.call_one.result) c.in-Some.ensures
    (c.call_one.ensures (codes "parameters") (text c.in-Some.name.now) refl c.text.ensures)
