use Rattle.std.proofs.Common.{ℕ, List, refl, ap, sym, subst, length, take, map, ◌∙◌, arith}
use Rattle.std.proofs.lemmas.Iterator.Adapters.{YieldsList-from_vec}
use Rattle.std.proofs.lemmas.Iterator.Consumers.{YieldsList-turn, YieldsList-end}
use Rattle.deploy_histories.specs.Answers.{StopsFollowing}
use Rattle.deploy_histories.specs.Events.{Event, progress}
use Rattle.board_dealing.proofs.PassLemmas.{kept_of}
use Rattle.board_replays.specs.Replays.{noted_of}
use Rattle.board_replays.proofs.PlayLemmas.{played_step}
use Rattle.board_replays.proofs.LateLemmas.{none_played, place_next, played_next, played_not, played_all}
use Rattle.board_replays.proofs.replaying.play_all.Goals as goal

pub loop-noted-init : goal.loop-noted-init
loop-noted-init g c = record {
  sound = c.requires.sound;
  planned = refl;
  unrefused = ap (λ (h : List Event). (progress h).refusal) c.requires.nothing;
  kept = c.requires.kept;
  place = refl;
  played = none_played (g.S.Standings.planned c.args.standings.now) c.args.answers.items c.args.late.now.items
      c.args.history.now.events c.requires.none c.requires.nothing;
}

pub play-requires-clause-kept : goal.play-requires-clause-kept
play-requires-clause-kept g c =
    kept_of (g.S.Standings.planned c.args.standings.now) (g.S.Standings.planned c.loop-noted.standings)
    (g.S.Standings.known c.loop-noted.standings) c.loop-noted.history.count c.loop-noted.history.events
    c.loop-noted.agenda c.loop-noted.seen c.loop-noted.invariant.planned c.loop-noted.invariant.kept

pub returns-in_err-play-clause-planned : goal.returns-in_err-play-clause-planned
returns-in_err-play-clause-planned g c = c.play.ensures.planned ∙ c.loop-noted.invariant.planned

pub returns-in_err-play-clause-kept : goal.returns-in_err-play-clause-kept
returns-in_err-play-clause-kept g c =
    kept_of (g.S.Standings.planned c.loop-noted.standings) (g.S.Standings.planned c.args.standings.now)
    (g.S.Standings.known c.play.new.standings) c.play.new.history.count c.play.new.history.events c.play.new.agenda
    c.play.new.seen (sym c.loop-noted.invariant.planned) c.play.ensures.kept

pub returns-then-not-branch-clause-planned : goal.returns-then-not-branch-clause-planned
returns-then-not-branch-clause-planned g c = c.play.ensures.planned ∙ c.loop-noted.invariant.planned

pub returns-then-not-branch-clause-kept : goal.returns-then-not-branch-clause-kept
returns-then-not-branch-clause-kept g c =
    kept_of (g.S.Standings.planned c.loop-noted.standings) (g.S.Standings.planned c.args.standings.now)
    (g.S.Standings.known c.play.new.standings) c.play.new.history.count c.play.new.history.events c.play.new.agenda
    c.play.new.seen (sym c.loop-noted.invariant.planned) c.play.ensures.kept

pub returns-then-not-branch-clause-played : goal.returns-then-not-branch-clause-played
returns-then-not-branch-clause-played g c =
    let gives = c.into_iter-noted-iterator.ensures.into_iter_gives in
    let ns = c.args.answers.items in
    let ys = c.loop-noted.yielded in
    let at = YieldsList-turn (YieldsList-from_vec ns gives.0 (gives.1 ∙ c.args.answers.ok.0)) ys
    c.loop-noted.noted-iterator c.loop-noted.yielded_by c.next.result c.next.new.self c.in-Some.noted c.in-Some.is
    c.next.ensures.steps in
    subst (λ (i : ℕ). StopsFollowing (g.S.Standings.planned c.args.standings.now) (map noted_of ns) i)
    (sym c.loop-noted.invariant.place)
    (played_not (g.S.Standings.planned c.args.standings.now) ns (length ys) c.in-Some.noted c.loop-noted.late.items
    c.play.new.late.items c.loop-noted.history.events c.play.new.history.events c.in_ok-play.field-0
    c.if-not-branch.true at.0 at.1 c.loop-noted.invariant.played c.loop-noted.invariant.kept.is_legal
    (played_step (g.S.Standings.planned c.args.standings.now) (g.S.Standings.planned c.loop-noted.standings)
    (take (length ys) (map noted_of ns)) (noted_of c.in-Some.noted) c.loop-noted.late.items c.play.new.late.items
    c.loop-noted.history.events c.play.new.history.events c.play.result c.in_ok-play.field-0
    c.loop-noted.invariant.planned c.in_ok-play.was c.play.ensures.played c.loop-noted.invariant.played))

pub overflow_add-place : goal.overflow_add-place
overflow_add-place g c =
    let gives = c.into_iter-noted-iterator.ensures.into_iter_gives in
    let ns = c.args.answers.items in
    let at = YieldsList-turn (YieldsList-from_vec ns gives.0 (gives.1 ∙ c.args.answers.ok.0)) c.loop-noted.yielded
    c.loop-noted.noted-iterator c.loop-noted.yielded_by c.next.result c.next.new.self c.in-Some.noted c.in-Some.is
    c.next.ensures.steps in
    let l = at.0 in
    omega (arith, l, c.loop-noted.invariant.place, c.args.answers.ok.0, c.args.answers.ok.1, c.args.answers.small)

pub loop-noted-preserved : goal.loop-noted-preserved
loop-noted-preserved g c =
    let gives = c.into_iter-noted-iterator.ensures.into_iter_gives in
    let ns = c.args.answers.items in
    let ys = c.loop-noted.yielded in
    let at = YieldsList-turn (YieldsList-from_vec ns gives.0 (gives.1 ∙ c.args.answers.ok.0)) ys
    c.loop-noted.noted-iterator c.loop-noted.yielded_by c.next.result c.next.new.self c.in-Some.noted c.in-Some.is
    c.next.ensures.steps in
    record {
      sound = c.play.ensures.sound;
      planned = c.play.ensures.planned ∙ c.loop-noted.invariant.planned;
      unrefused = c.play.ensures.unrefused;
      kept = kept_of (g.S.Standings.planned c.loop-noted.standings) (g.S.Standings.planned c.args.standings.now)
          (g.S.Standings.known c.play.new.standings) c.play.new.history.count c.play.new.history.events
          c.play.new.agenda c.play.new.seen (sym c.loop-noted.invariant.planned) c.play.ensures.kept;
      place = place_next c.loop-noted.place ys c.in-Some.noted c.loop-noted.invariant.place;
      played = played_next (g.S.Standings.planned c.args.standings.now) ns ys c.in-Some.noted c.play.new.late.items
          c.play.new.history.events c.in_ok-play.field-0 c.if-not-branch.false at.0 at.1
          (played_step (g.S.Standings.planned c.args.standings.now) (g.S.Standings.planned c.loop-noted.standings)
          (take (length ys) (map noted_of ns)) (noted_of c.in-Some.noted) c.loop-noted.late.items
          c.play.new.late.items c.loop-noted.history.events c.play.new.history.events c.play.result
          c.in_ok-play.field-0 c.loop-noted.invariant.planned c.in_ok-play.was c.play.ensures.played
          c.loop-noted.invariant.played);
    }

pub returns-clause-played : goal.returns-clause-played
returns-clause-played g c =
    let gives = c.into_iter-noted-iterator.ensures.into_iter_gives in
    let ns = c.args.answers.items in
    let ys = c.loop-noted.yielded in
    let whole = YieldsList-end (YieldsList-from_vec ns gives.0 (gives.1 ∙ c.args.answers.ok.0)) ys
    c.loop-noted.noted-iterator c.loop-noted.yielded_by c.next.result c.next.new.self c.in-None.is
    c.next.ensures.steps in
    played_all (g.S.Standings.planned c.args.standings.now) ns (length ys) c.loop-noted.late.items
    c.loop-noted.history.events whole.1 c.loop-noted.invariant.played
