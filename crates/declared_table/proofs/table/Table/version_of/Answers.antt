use Rattle.std.proofs.Common.{sym, subst}
use Rattle.std.proofs.lemmas.Str.{chars-nil}
use Rattle.emitted_expressions.specs.Built.{IsText}
use Rattle.declared_table.proofs.table.Table.version_of.Goals as goal

pub returns-in-Some : goal.returns-in-Some
returns-in-Some c = subst (λ w. IsText w.version c.copy.result) c.in-Some.ensures c.copy.ensures

pub returns-in-None : goal.returns-in-None
returns-in-None c = subst (λ w. IsText w.version c.of.result) (sym c.in-None.ensures)
    (subst (λ t. IsText t c.of.result) chars-nil c.of.ensures)
