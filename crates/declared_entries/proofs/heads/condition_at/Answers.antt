use Rattle.std.proofs.Common.{[], sym, subst}
use Rattle.std.specs.Prelude.{IfOk}
use Rattle.kept_expressions.specs.Kept.{IsKeptHoles}
use Rattle.declared_table.specs.Seen.{emission_in}
use Rattle.declared_entries.proofs.heads.condition_at.Goals as goal

pub returns-in-Ok : goal.returns-in-Ok
returns-in-Ok c =
    subst (λ x. IfOk x (IsKeptHoles ((emission_in c.args.table.now).condition c.args.number [])))
    (sym c.letting_go.ensures)
    (c.placed_condition.ensures c.in-Ok.ensures)
