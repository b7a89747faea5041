use Rattle.std.proofs.Common.{sym, subst, length, ◌≤◌}
use Rattle.arm_expr.specs.Grammar.{Spells}
use Rattle.arm_expr.specs.View.{tree_of}
use Rattle.arm_expr.proofs.PrintLemmas.{printed_spells}
use Rattle.arm_expr.proofs.Reading.{read_as, short, within}
use Rattle.arm_expr.proofs.printer.print.Goals as goal

pub returns-clause-spells : goal.returns-clause-spells
returns-clause-spells c =
    subst (Spells (tree_of c.args.e.now)) (sym c.in_ok-text.ensures.text)
    (printed_spells (tree_of c.args.e.now) c.requires c.in_ok-text.ensures.ints)

pub returns-clause-reads_back : goal.returns-clause-reads_back
returns-clause-reads_back c = λ r a.
    read_as c.in_ok-text.text r (tree_of c.args.e.now) 24576 64 a (returns-clause-spells c)
    (subst (λ t. length t ≤ 24576) (sym c.in_ok-text.ensures.text)
    (short _ _ _ c.is_too_long.ensures c.if-is_too_long.false))
    (within _ _ c.if-not-is_within.ensures)
