use Rattle.std.proofs.Common.{[], map, sym, subst}
use Rattle.ordered_emissions.specs.Holes.{fill, nearest}
use Rattle.kept_parts.specs.Declared.{id_of_parts}
use Rattle.emitted_expressions.specs.Built.{Is}
use Rattle.declared_table.proofs.lookup.id_without.Goals as goal

pub returns-in-Ok : goal.returns-in-Ok
returns-in-Ok c = λ ts h.
    subst (λ r. Is (id_of_parts c.args.kind.now (map (fill (nearest [])) ts)) r) (sym c.letting_go.ensures)
    (c.id_of_parts-made.ensures ts (nearest []) h c.in-Ok.ensures c.in-Ok.ensures)
