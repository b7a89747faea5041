use Rattle.std.proofs.Common.{sym, arith, ◌∙◌}
use Rattle.deploy_histories.specs.Events.{progress}
use Rattle.board_replays.specs.Replays.{noted_of}
use Rattle.board_replays.proofs.PlayLemmas.{suits_noted, not_suiting, not_in_plan, playable_on}
use Rattle.board_replays.proofs.testing.may_play.Goals as goal

pub returns-then-task-count-clause-may : goal.returns-then-task-count-clause-may
returns-then-task-count-clause-may g c =
    not_in_plan (g.S.Standings.planned c.args.standings.now) (noted_of c.args.noted.now)
    (progress c.args.history.now.events) c.count-count.result c.count-count.ensures
    (let t = c.if-task-count.true in omega (arith, t))

pub returns-then-task-count-clause-kept : goal.returns-then-task-count-clause-kept
returns-then-task-count-clause-kept g c = λ seen k. k

pub kind-requires-clause-within : goal.kind-requires-clause-within
kind-requires-clause-within g c =
    let t = c.if-task-count.false in let e = c.count-count.ensures in omega (arith, t, e)

pub returns-then-not-suits-clause-may : goal.returns-then-not-suits-clause-may
returns-then-not-suits-clause-may g c =
    not_suiting (g.S.Standings.planned c.args.standings.now) (noted_of c.args.noted.now)
    (progress c.args.history.now.events) c.kind.result c.kind.ensures (sym c.suits.ensures ∙ c.if-not-suits.true)

pub returns-then-not-suits-clause-kept : goal.returns-then-not-suits-clause-kept
returns-then-not-suits-clause-kept g c = λ seen k. k

pub is_ready_with-requires-clause-within : goal.is_ready_with-requires-clause-within
is_ready_with-requires-clause-within g c =
    let t = c.if-task-count.false in let e = c.count-count.ensures in omega (arith, t, e)

pub returns-clause-may : goal.returns-clause-may
returns-clause-may g c =
    playable_on (g.S.Standings.planned c.args.standings.now) (noted_of c.args.noted.now)
    (progress c.args.history.now.events) c.is_ready_with.result
    (suits_noted (g.S.Standings.planned c.args.standings.now) (noted_of c.args.noted.now) c.kind.result c.kind.ensures
    (sym c.suits.ensures ∙ c.if-not-suits.false)) c.is_ready_with.ensures.ready
