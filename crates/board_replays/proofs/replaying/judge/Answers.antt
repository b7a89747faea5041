use Rattle.std.proofs.Common.{ℕ, Option, subst}
use Rattle.board_replays.specs.Replays.{IsReplayed}
use Rattle.board_replays.proofs.LateLemmas.{reopened_by, out_is_fault}
use Rattle.board_replays.proofs.replaying.judge.Goals as goal

pub returns-in-Some-clause-reopened : goal.returns-in-Some-clause-reopened
returns-in-Some-clause-reopened g c = λ ns n p. tt

pub returns-in-Some-clause-fault : goal.returns-in-Some-clause-fault
returns-in-Some-clause-fault g c =
    λ ns p. subst (λ (b : Option ℕ). IsReplayed (g.S.Standings.planned c.args.standings.now) ns
    c.args.history.now.events b) c.in-Some.is p

pub returns-in-None-clause-reopened : goal.returns-in-None-clause-reopened
returns-in-None-clause-reopened g c =
    λ ns n p. reopened_by (g.S.Standings.planned c.args.standings.now) ns c.args.history.now c.close.new.history
    c.close.result n
    (subst (λ (b : Option ℕ). IsReplayed (g.S.Standings.planned c.args.standings.now) ns c.args.history.now.events b)
    c.in-None.is p) c.requires.is_legal c.close.ensures.history

pub returns-in-None-clause-fault : goal.returns-in-None-clause-fault
returns-in-None-clause-fault g c =
    λ ns p. out_is_fault (g.S.Standings.planned c.args.standings.now) ns c.close.result c.close.ensures.out
