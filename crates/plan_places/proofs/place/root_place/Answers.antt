use Rattle.std.proofs.Common.{sym, ap, ◌∙◌}
use Rattle.reading.specs.Knowledge.{value}
use Rattle.plan_places.proofs.NameLemmas.{root_told}
use Rattle.plan_places.proofs.place.root_place.Goals as goal

pub returns-in-Ok : goal.returns-in-Ok
returns-in-Ok c = root_told c.args.table.now c.args.table.now.place.now ∙ ap value (sym c.in-Ok.ensures)
