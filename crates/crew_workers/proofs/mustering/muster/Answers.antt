use Rattle.std.proofs.Common.{rules, arith, ◌≡◌, ◌+◌, ◌<◌, suc, List, [], ◌∷◌, ◌++◌, length, get_or, vec_items}
use Rattle.std.proofs.Common.{vec_len, below_more, sym, ap, ◌∙◌, subst}
use Rattle.std.proofs.lemmas.List.{get_or_default}
use Rattle.std.specs.Vec.Iter.{into_iter_items}
use Rattle.crossbeam_channel.specs.Ends.{sends_on}
use Rattle.crew_workers.specs.Posts.{IsPosted, IsStationed, IsStartOf, marks}
use Rattle.crew_workers.specs.Threads.{HasThreads}
use Rattle.crew_workers.specs.declared.channel.SeatChannel.{SeatChannel}
use Rattle.crew_workers.specs.declared.post.Post.{Post}
use Rattle.crew_workers.specs.declared.post.Station.{Station}
use Rattle.crew_workers.specs.declared.seat_thread.SeatThread.{SeatThread}
use Rattle.crew_workers.proofs.MarkLemmas.{threads_empty, threads_more}
use Rattle.crew_workers.proofs.mustering.muster.Goals as goal
use Rattle.crew_workers.proofs.mustering.muster.Goals.{After-index-channels-at}
use Rattle.seat_calls.specs.Dones.{Made}

its_channel : (g : _) (c : After-index-channels-at g) (e : SeatChannel)
    → get_or c.args.channels.now (vec_len c.loop-station.posts) e ≡ c.index-channels-at.result
its_channel g c e =
    let h = c.loop-station.invariant.0 in
    let s = c.in-Some.ensures.steps in
    ap (λ n. get_or c.args.channels.now n e) (sym c.len-at.ensures)
    ∙ get_or_default c.args.channels.now c.len-at.result e c.index-channels-at.result (search rules)
    ∙ sym c.index-channels-at.is

its_station : (g : _) (c : After-index-channels-at g) (d : Station g.row.P.Denot)
    → get_or (vec_items c.args.stations) (vec_len c.loop-station.posts) d ≡ c.in-Some.station
its_station g c d = let h = c.loop-station.invariant.2 0 d in grind rules

pub start-started-requires-clause-ready : goal.start-started-requires-clause-ready
start-started-requires-clause-ready g c κs within =
    subst (λ (y : SeatChannel × Station g.row.P.Denot).
    IsStationed (Made g.P.Serves.may g.P.Serves.tells g.P.Serves.calls g.P.Serves.faults) y.0
    (sends_on c.args.to.now) y.1)
    (λ i. (its_channel g c c.index-channels-at.result i, its_station g c c.in-Some.station i))
    (c.requires.ready.each (vec_len c.loop-station.posts) c.in-Some.station c.index-channels-at.result
    (let h = c.loop-station.invariant.0 in grind rules))

pub loop-station-init : goal.loop-station-init
loop-station-init g c =
    let none : vec_len c.args.room ≡ 0 = c.requires.room.0 in
    let empty : length (vec_items c.args.room) ≡ 0 = search rules in
    let same : vec_items c.args.stations ≡ into_iter_items c.into_iter-station-iterator.result = search rules in (
      search rules,
      search rules,
      (λ k d low.
          let at : k ≡ vec_len c.args.room + k = omega arith in
          ap (λ l. get_or l k d) (sym same) ∙ ap (λ n. get_or (vec_items c.args.stations) n d) at),
      (λ k d e f low. let below : k < 0 = subst (λ n. k < n) none low in absurd (omega arith)),
      (search rules, search rules),
      threads_empty (vec_items c.args.room) c.args.threads_room.items empty c.requires.none,
    )

pub loop-station-preserved : goal.loop-station-preserved
loop-station-preserved g c =
    let made = Made g.P.Serves.may g.P.Serves.tells g.P.Serves.calls g.P.Serves.faults in
    let was = c.loop-station.invariant in let done = vec_len c.loop-station.posts in
    let pushed = c.add in let all = vec_items pushed.new.posts in
    let steps = c.in-Some.ensures.steps.0 in let less = c.in-Some.ensures.steps.1 in
    let grown : vec_len pushed.new.posts ≡ done + 1 = search rules in
    let posts_more : all ≡ vec_items c.loop-station.posts ++ c.start-started.result.post ∷ [] = search rules in
    let threads_now : c.add.new.threads.items ≡ c.loop-station.threads.items ++ c.start-started.result.thread ∷ []
    = search rules in
    let here = (goal.at.loop-station-preserved g c).After-index-channels-at in
    let So : SeatChannel → Station g.row.P.Denot → Post g.row.P.Denot → Type 0
    = λ x y z. IsPosted made x (sends_on c.args.to.now) z × IsStartOf y z in (
      search rules,
      search rules,
      (λ k d below.
          sym (ap (λ l. get_or l (suc k) d) steps) ∙ was.2 (suc k) d (let e = less in omega arith)
          ∙ ap (λ n. get_or (vec_items c.args.stations) n d) (omega arith)),
      (λ i d e f below.
          below_more (λ j. So (get_or c.args.channels.now j e) (get_or (vec_items c.args.stations) j d)
          (get_or all j f)) done
          (λ j low.
          subst (λ p. So (get_or c.args.channels.now j e) (get_or (vec_items c.args.stations) j d) p)
          (sym (pushed.ensures.before j f low)) (was.3 j d e f low))
          (subst (λ (y : SeatChannel × Station g.row.P.Denot × Post g.row.P.Denot). So y.0 y.1 y.2)
          (λ i. (
            sym (its_channel g here e) i,
            sym (its_station g here d) i,
            sym (pushed.ensures.last f) i,
          )) (c.start-started.ensures.posted, c.start-started.ensures.start))
          i (omega arith)),
      (search rules, search rules),
      subst (λ (y : List (Post g.row.P.Denot) × List (SeatThread g.row.P.Denot)). HasThreads (marks y.0) y.1)
          (λ i. (sym posts_more i, sym threads_now i))
          (threads_more (vec_items c.loop-station.posts) c.loop-station.threads.items c.start-started.result.post
          c.start-started.result.thread
          was.5 c.start-started.ensures.thread),
    )

pub returns-clause-threads : goal.returns-clause-threads
returns-clause-threads g c = c.loop-station.invariant.5

pub returns-clause-posted : goal.returns-clause-posted
returns-clause-posted g c =
    let i = c.loop-station.invariant.0 in
    let e = c.in-None.ensures in record {
      len = grind rules;
      each = λ k d e f low. c.loop-station.invariant.3 k d e f (grind rules);
    }
