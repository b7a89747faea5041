use Rattle.std.proofs.Common.{sym, ap, subst, ◌∙◌}
use Rattle.foundation.proofs.Options.{if_ok}
use Rattle.plan_table.specs.declared.line.Line.{Line}
use Rattle.plan_tasks.proofs.TableLemmas.{line_is}
use Rattle.dependency_faults.specs.Met.{IsLineMet}
use Rattle.dependency_faults.proofs.LineLemmas.{condition_instance}
use Rattle.dependency_faults.proofs.check.check_line.Goals as goal

pub check_instance-requires-clause-instance : goal.check_instance-requires-clause-instance
check_instance-requires-clause-instance c =
    condition_instance c.args.register.now.table c.requires.table c.args.at c.in-Included.frame c.in-Included.resource
    c.in-Included.copy c.requires.listed
    (ap (λ (l : Line). l.spot) (line_is c.args.register.now.table.lines.items c.args.at c.index.result.now
    c.requires.listed c.index.ensures) ∙ c.in-Included.is)

pub returns-in-Included-clause-met : goal.returns-in-Included-clause-met
returns-in-Included-clause-met c =
    let spot =
    ap (λ (l : Line). l.spot) (line_is c.args.register.now.table.lines.items c.args.at c.index.result.now
    c.requires.listed c.index.ensures) ∙ c.in-Included.is in
    if_ok _ _ c.check_instance.result c.check_instance.ensures.met (λ u m.
    subst (IsLineMet c.args.register.now.table) (sym spot) m)
