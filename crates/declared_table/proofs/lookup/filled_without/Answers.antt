use Rattle.std.proofs.Common.{[], sym, subst}
use Rattle.ordered_emissions.specs.Holes.{fill, nearest}
use Rattle.emitted_expressions.specs.Built.{Is}
use Rattle.declared_table.proofs.lookup.filled_without.Goals as goal

pub returns-in-Ok : goal.returns-in-Ok
returns-in-Ok c = λ t h.
    subst (λ r. Is (fill (nearest []) t) r) (sym c.letting_go.ensures)
    (c.filled-made.ensures t (nearest []) h c.in-Ok.ensures c.in-Ok.ensures)
