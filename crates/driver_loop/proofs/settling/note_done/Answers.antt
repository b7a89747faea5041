use Rattle.driver_loop.proofs.SettleLemmas.{wrote_ok, wrote_err, wrote_none}
use Rattle.driver_loop.proofs.settling.note_done.Goals as goal

pub returns-in-Ok-note : goal.returns-in-Ok-note
returns-in-Ok-note g c =
    let n = c.in-Ok-note.ensures in
    wrote_ok _ _ _ c.args.done.now c.in-Ok.answer c.in-Ok.is n.notes n.count n.first n.faults n.broken

pub returns-in-Err-note : goal.returns-in-Err-note
returns-in-Err-note g c =
    let n = c.in-Err-note.ensures in
    wrote_err _ _ _ c.args.done.now c.in-Ok.answer c.in-Err-note.refused c.in-Ok.is n.notes n.count n.first n.faults
    n.broken

pub returns-in-Err : goal.returns-in-Err
returns-in-Err g c = wrote_none _ _ c.args.done.now c.in-Err.field-0 c.in-Err.is
