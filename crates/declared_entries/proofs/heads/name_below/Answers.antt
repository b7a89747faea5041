use Rattle.std.proofs.Common.{sym, subst}
use Rattle.std.specs.Prelude.{IfOk}
use Rattle.emitted_declarations.specs.Declared.{with_slash}
use Rattle.kept_expressions.specs.Kept.{IsKeptHoles}
use Rattle.declared_table.specs.Seen.{emission_in}
use Rattle.declared_entries.proofs.heads.name_below.Goals as goal

pub returns-in-Ok : goal.returns-in-Ok
returns-in-Ok c = λ fs a r h k.
    let upper = (emission_in c.args.table.now).full_name c.args.number fs in
    subst (λ x. IfOk x (IsKeptHoles (with_slash upper a))) (sym c.letting_go.ensures)
    (c.joined.ensures upper a (c.in-Ok.ensures fs r h) k)
