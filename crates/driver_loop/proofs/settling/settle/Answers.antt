use Rattle.std.proofs.Common.{None, sym, subst, set}
use Rattle.driver_loop.specs.Actions.{end_of}
use Rattle.driver_loop.specs.Runs.{Tied}
use Rattle.driver_loop.proofs.SettleLemmas.{open_for, tied_settled, end_closes}
use Rattle.driver_loop.proofs.settling.settle.Goals as goal

pub finish-requires : goal.finish-requires
finish-requires g c = open_for _ _ c.args.done c.requires.tied c.requires.open

pub returns-clause-tied : goal.returns-clause-tied
returns-clause-tied g c =
    let d = c.args.done in
    let refused = c.note_done-refused.result in
    subst (λ s. Tied s (set c.args.opens.now d.worker None)) (sym c.finish.ensures.steps)
    (tied_settled _ _ d c.requires.tied c.requires.open (end_of d.job.task d.got refused)
    (end_closes d.job.task d.got refused))

pub returns-clause-settled : goal.returns-clause-settled
returns-clause-settled g c = (
  c.note_done-refused.result,
  c.finish.ensures.steps,
  c.note_done-refused.ensures,
  c.finish.ensures.fault,
)
