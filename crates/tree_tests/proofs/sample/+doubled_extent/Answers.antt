use Rattle.std.proofs.Common.{◌-◌, codes, refl, sym, subst}
use Rattle.arm_expr.specs.Tree.{text}
use Rattle.emitted_sizes.specs.Extent.{IsOf}
use Rattle.tree_tests.specs.Sample.{doubled}
use Rattle.tree_tests.proofs.SampleLemmas.{next_doubled}
use Rattle.tree_tests.proofs.sample.+doubled_extent.Goals as goal

pub returns-then-number-eq0 : goal.returns-then-number-eq0
returns-then-number-eq0 t c =
    subst (λ n. IsOf (doubled n) c.call_one.result) (sym c.if-number-eq0.true)
    (c.call_one.ensures (codes "parameters") (text (codes "p")) refl (c.word.ensures refl))

pub returns : goal.returns
returns t c =
    let before = doubled (c.args.number - 1) in
    subst (λ u. IsOf u c.call_three.result) (next_doubled c.args.number c.if-number-eq0.false)
    (c.call_three.ensures (codes "format") (text (codes "{0}{1}")) before before refl (c.word-2.ensures refl)
    c.doubled_extent-before.ensures c.doubled_extent-before.ensures)
