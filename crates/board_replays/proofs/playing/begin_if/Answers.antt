use Rattle.std.proofs.Common.{true, false, Option, ℕ, refl, sym, subst, ◌∙◌}
use Rattle.provider_trait.specs.declared.answer.Answer.{Answer}
use Rattle.deploy_histories.specs.Events.{progress}
use Rattle.board_replays.specs.Plays.{IsBegunFor}
use Rattle.board_replays.specs.Replays.{noted_of}
use Rattle.board_replays.proofs.PlayLemmas.{playable_so}
use Rattle.board_replays.proofs.playing.begin_if.Goals as goal

pub begin_noted-requires-clause-playable : goal.begin_noted-requires-clause-playable
begin_noted-requires-clause-playable g c =
    playable_so (g.S.Standings.planned c.args.standings.now) (noted_of c.args.noted)
    (progress c.args.history.now.events) c.args.may true c.if-may.true c.requires.playable

pub returns-then-may-clause-unrefused : goal.returns-then-may-clause-unrefused
returns-then-may-clause-unrefused g c = c.begin_noted.ensures.unrefused ∙ c.requires.unrefused

pub returns-else-may-clause-kept : goal.returns-else-may-clause-kept
returns-else-may-clause-kept g c = λ seen k. k

pub returns-else-may-clause-begun : goal.returns-else-may-clause-begun
returns-else-may-clause-begun g c =
    subst (λ (o : Option (ℕ × Answer)). IsBegunFor (g.S.Standings.planned c.args.standings.now)
    c.args.history.now.events (noted_of c.args.noted) c.args.history.now.events o) (sym c.refuse.ensures) (
      refl,
      playable_so (g.S.Standings.planned c.args.standings.now) (noted_of c.args.noted)
          (progress c.args.history.now.events) c.args.may false c.if-may.false c.requires.playable,
    )
