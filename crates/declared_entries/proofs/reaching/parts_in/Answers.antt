use Rattle.std.proofs.Common.{sym, subst}
use Rattle.std.specs.Prelude.{IfOk}
use Rattle.emission_laws.specs.Holes.{nearest}
use Rattle.kept_expressions.specs.Kept.{AreKeptHoles}
use Rattle.kept_parts.specs.Frames.{IsKeptFrame}
use Rattle.declared_table.specs.Seen.{emission_in}
use Rattle.declared_entries.proofs.reaching.parts_in.Goals as goal

pub returns-in-Ok : goal.returns-in-Ok
returns-in-Ok c = λ fs h.
    subst (λ x. IfOk x (λ ps. AreKeptHoles ((emission_in c.args.table.now).parts c.args.number fs) ps.items))
    (sym c.letting_go.ensures)
    (c.placed_parts.ensures (nearest fs) (subst (λ x. IfOk x (IsKeptFrame (nearest fs))) c.in-Ok.is h))
