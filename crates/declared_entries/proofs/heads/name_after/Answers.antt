use Rattle.std.proofs.Common.{sym, subst}
use Rattle.std.specs.Prelude.{IfOk}
use Rattle.emission_laws.specs.Holes.{nearest}
use Rattle.emitted_declarations.specs.Declared.{with_slash}
use Rattle.kept_expressions.specs.Kept.{IsKeptHoles}
use Rattle.kept_parts.specs.Frames.{IsKeptFrame}
use Rattle.declared_table.specs.Seen.{emission_in}
use Rattle.declared_entries.proofs.heads.name_after.Goals as goal

pub returns-in-Ok : goal.returns-in-Ok
returns-in-Ok c = λ fs a r h k.
    subst (λ x. IfOk x (IsKeptHoles (with_slash ((emission_in c.args.table.now).full_name c.args.number fs) a)))
    (sym c.letting_go.ensures)
    (c.name_below.ensures fs a r (subst (λ x. IfOk x (IsKeptFrame (nearest fs))) c.in-Ok.is h) k)
