use Rattle.std.proofs.Common.{sym, subst, refl}
use Rattle.arm_expr.specs.Tree.{text}
use Rattle.emitted_sizes.specs.Extent.{IsOf}
use Rattle.declared_table.proofs.table.Table.version_extent.Goals as goal

pub returns-in-Some : goal.returns-in-Some
returns-in-Some c = subst (λ w. IsOf (text w.version) c.text.result) c.in-Some.ensures c.text.ensures

pub returns-in-None : goal.returns-in-None
returns-in-None c = subst (λ w. IsOf (text w.version) c.word.result) (sym c.in-None.ensures) (c.word.ensures refl)
