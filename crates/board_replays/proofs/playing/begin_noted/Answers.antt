use Rattle.std.proofs.Common.{refl}
use Rattle.arm_value.specs.View.{json}
use Rattle.board_replays.specs.Replays.{noted_of}
use Rattle.board_replays.proofs.PlayLemmas.{act_noted, begun_refusal, begun_now}
use Rattle.board_replays.proofs.playing.begin_noted.Goals as goal

pub begin-requires-clause-ready : goal.begin-requires-clause-ready
begin-requires-clause-ready g c = c.requires.playable.0

pub begin-requires-clause-act : goal.begin-requires-clause-act
begin-requires-clause-act g c =
    act_noted (g.S.Standings.planned c.args.standings.now) (g.S.Standings.known c.args.standings.now)
    c.args.history.now.count c.args.history.now.events c.args.agenda.now c.requires.kept (noted_of c.args.noted)
    c.requires.playable.1

pub returns-in-Ok-clause-unrefused : goal.returns-in-Ok-clause-unrefused
returns-in-Ok-clause-unrefused g c =
    begun_refusal c.args.history.now c.begin.new.history c.args.noted.task c.args.noted.worker (json c.args.noted.body)
    c.begin.result c.begin.ensures.history

pub returns-in-Err-clause-unrefused : goal.returns-in-Err-clause-unrefused
returns-in-Err-clause-unrefused g c =
    begun_refusal c.args.history.now c.begin.new.history c.args.noted.task c.args.noted.worker (json c.args.noted.body)
    c.begin.result c.begin.ensures.history

pub returns-in-Ok-clause-begun : goal.returns-in-Ok-clause-begun
returns-in-Ok-clause-begun g c = (
  refl,
  begun_now (g.S.Standings.planned c.args.standings.now) c.args.history.now c.begin.new.history (noted_of c.args.noted)
      c.begin.result _ c.in-Ok.is c.begin.ensures.history c.requires.playable,
)
