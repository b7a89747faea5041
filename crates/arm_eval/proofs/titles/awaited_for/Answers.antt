use Rattle.arm_eval.specs.Words.{titles_in}
use Rattle.arm_eval.proofs.CellLemmas.{text_stops, text_never}
use Rattle.arm_eval.proofs.titles.awaited_for.Goals as goal

pub returns-in-Ok : goal.returns-in-Ok
returns-in-Ok g c =
    λ r e. absurd
    (text_never (g.K.Entries.known c.args.entries.now) (titles_in c.args.titles.now) c.args.place.now r c.args.text
    c.in-Ok.key e c.in-Ok.ensures)

pub returns-in-Err : goal.returns-in-Err
returns-in-Err g c =
    λ r e. text_stops (g.K.Entries.known c.args.entries.now) (titles_in c.args.titles.now) c.args.place.now
    c.in-Err.stop r c.args.text e c.in-Err.ensures
