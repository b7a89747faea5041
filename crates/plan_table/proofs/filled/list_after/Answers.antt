use Rattle.std.proofs.Common.{map}
use Rattle.plan_table.specs.declared.line.State.TheVariants as how
use Rattle.plan_table.specs.Opened.{opened_of}
use Rattle.plan_table.proofs.MarkLemmas.{set_indexed}
use Rattle.plan_table.proofs.filled.list_after.Goals as goal

pub list_spots-requires-clause-indexed : goal.list_spots-requires-clause-indexed
list_spots-requires-clause-indexed c =
    set_indexed (map opened_of c.args.frames.now) c.args.index.now c.args.lines.now.items c.set_state.new.lines.items
    c.args.at (how.Value c.args.filled.0) c.args.filled.1 c.requires.indexed c.requires.listed c.set_state.ensures
