use Rattle.std.proofs.Common.{rules, arith, ◌≡◌, ◌<◌, ◌+◌, ◌∷◌, List, length, suc, get_or, vec_items, vec_len}
use Rattle.std.proofs.Common.{below_more, sym}
use Rattle.std.proofs.Common.{ap, ◌∙◌, subst}
use Rattle.std.specs.Vec.Iter.{into_iter_items}
use Rattle.crew_workers.specs.Posts.{Gave, marks}
use Rattle.crew_workers.specs.Threads.{HasThreads}
use Rattle.crew_workers.specs.declared.post.Post.{Post}
use Rattle.crew_workers.specs.declared.post.Station.{Station}
use Rattle.crew_workers.specs.declared.seat_thread.SeatThread.{SeatThread}
use Rattle.crew_workers.proofs.MarkLemmas.{marks_length, thread_first, threads_rest}
use Rattle.crew_workers.proofs.gathering.gather.Goals as goal
use Rattle.seat_calls.specs.Dones.{Made}

pub loop-post-init : goal.loop-post-init
loop-post-init g c =
    let none : vec_len c.args.room ≡ 0 = c.requires.room.0 in
    let same : vec_items c.args.posts ≡ into_iter_items c.into_iter-post-iterator.result = search rules in
    let many = c.requires.threads.len ∙ marks_length (vec_items c.args.posts) in (
      search rules,
      search rules,
      (λ k d low.
          let at : k ≡ vec_len c.args.room + k = omega arith in
          ap (λ l. get_or l k d) (sym same) ∙ ap (λ n. get_or (vec_items c.args.posts) n d) at),
      (λ k d f low. let below : k < 0 = subst (λ n. k < n) none low in absurd (omega arith)),
      search rules,
      subst (λ (l : List (Post g.row.P.Denot)). HasThreads (marks l) c.args.threads.items) same c.requires.threads,
    )

pub finish-station-requires : goal.finish-station-requires
finish-station-requires g c =
    let steps = c.in-Some.ensures.steps.0 in
    let front : c.loop-post.left.items ≡ c.take_first-thread.result ∷ c.take_first-thread.new.list.items
    = c.take_first-thread.ensures in
    record {
      thread =
          thread_first _ _ _ _
          (subst (λ (y : List (Post g.row.P.Denot) × List (SeatThread g.row.P.Denot)). HasThreads (marks y.0) y.1)
          (λ i. (steps i, front i)) c.loop-post.invariant.5);
    }

pub loop-post-preserved : goal.loop-post-preserved
loop-post-preserved g c =
    let made = Made g.P.Serves.may g.P.Serves.tells g.P.Serves.calls g.P.Serves.faults in
    let was = c.loop-post.invariant in let done = vec_len c.loop-post.stations in
    let pushed = c.put in let all = vec_items pushed.new.list in
    let steps = c.in-Some.ensures.steps.0 in let less = c.in-Some.ensures.steps.1 in
    let grown : vec_len pushed.new.list ≡ done + 1 = search rules in
    let front : c.loop-post.left.items ≡ c.take_first-thread.result ∷ c.take_first-thread.new.list.items
    = c.take_first-thread.ensures in
    let many = ap length front in
    let its : (f : Post g.row.P.Denot) → c.in-Some.post ≡ get_or (vec_items c.args.posts) done f
    = λ f. let h = was.2 0 f in grind rules in (
      search rules,
      search rules,
      (λ k d below.
          sym (ap (λ l. get_or l (suc k) d) steps) ∙ was.2 (suc k) d (let e = less in omega arith)
          ∙ ap (λ n. get_or (vec_items c.args.posts) n d) (omega arith)),
      (λ i d f below.
          below_more (λ j. Gave made (get_or (vec_items c.args.posts) j f) (get_or all j d)) done
          (λ j low.
          subst (λ b. Gave made (get_or (vec_items c.args.posts) j f) b) (sym (pushed.ensures.before j d low))
          (was.3 j d f low))
          (subst (λ (y : Post g.row.P.Denot × Station g.row.P.Denot). Gave made y.0 y.1)
          (λ i. (its f i, sym (pushed.ensures.last d) i)) c.finish-station.ensures)
          i (omega arith)),
      (let w = was.4 in omega arith),
      threads_rest _ _ _ _
          (subst (λ (y : List (Post g.row.P.Denot) × List (SeatThread g.row.P.Denot)). HasThreads (marks y.0) y.1)
          (λ i. (steps i, front i)) was.5),
    )

pub returns : goal.returns
returns g c =
    let i = c.loop-post.invariant.0 in
    let e = c.in-None.ensures in record {
      len = grind rules;
      each = λ k d f low. c.loop-post.invariant.3 k d f (grind rules);
    }
