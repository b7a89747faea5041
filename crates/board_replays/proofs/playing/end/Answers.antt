use Rattle.std.proofs.Common.{◌∙◌, sym}
use Rattle.board_replays.proofs.PlayLemmas.{ended_late, ended_now, ended_unrefused}
use Rattle.board_replays.proofs.playing.end.Goals as goal

pub returns-then-is_refusal-clause-kept : goal.returns-then-is_refusal-clause-kept
returns-then-is_refusal-clause-kept g c = λ seen k. k

pub returns-then-is_refusal-clause-ended : goal.returns-then-is_refusal-clause-ended
returns-then-is_refusal-clause-ended g c =
    ended_late c.args.task c.args.answer c.args.late.now.items c.hold.new.late.items c.args.history.now.events
    c.hold.result (sym c.is_refusal.ensures ∙ c.if-is_refusal.true) c.hold.ensures

pub returns-else-is_refusal-clause-unrefused : goal.returns-else-is_refusal-clause-unrefused
returns-else-is_refusal-clause-unrefused g c =
    ended_unrefused c.args.task c.args.answer c.args.history.now c.take.new.history
    (sym c.is_refusal.ensures ∙ c.if-is_refusal.false) c.take.ensures.history c.requires.unrefused

pub returns-else-is_refusal-clause-ended : goal.returns-else-is_refusal-clause-ended
returns-else-is_refusal-clause-ended g c =
    ended_now c.args.task c.args.answer c.args.late.now.items c.args.history.now c.take.new.history
    (sym c.is_refusal.ensures ∙ c.if-is_refusal.false) c.take.ensures.history
