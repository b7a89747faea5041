use Rattle.std.proofs.Common.{rules, arith, vec_items, ◌<◌, length, set, get_or, below_more, ◌∙◌, ap, sym, subst}
use Rattle.crossbeam_channel.specs.Claims.{view}
use Rattle.crew_workers.specs.Posts.{IsDismissed, number_of, before_of, promise_of}
use Rattle.crew_workers.specs.declared.post.Place.{Place}
use Rattle.crew_workers.specs.declared.post.Post.{Post}
use Rattle.seat_calls.specs.Dones.{Made}
use Rattle.crew_workers.proofs.MarkLemmas.{marks_set}
use Rattle.crew_workers.proofs.PostLemmas.{dismissed}
use Rattle.driver_loop.proofs.TieLemmas.{here_set, else_set}
use Rattle.worker_crew.proofs.RigLemmas.{rigged_at, rigged_set, sent_same}
use Rattle.worker_crew.proofs.rig.dismiss_all.Goals as goal

pub dismiss-requires : goal.dismiss-requires
dismiss-requires g c = record {
  posted =
      rigged_at (Made g.P.Serves.may g.P.Serves.tells g.P.Serves.calls g.P.Serves.faults) _
      (vec_items c.loop-at.posts_left) _ c.loop-at.invariant.1 c.loop-at.at c.index.result.now c.index_mut.result.now
      (search rules) (search rules) c.index_mut.ensures.value;
}

pub loop-at-preserved : goal.loop-at-preserved
loop-at-preserved g c =
    let was = c.loop-at.invariant in
    let posts = vec_items c.loop-at.posts_left in
    let low : c.loop-at.at < length posts = search rules in
    let value = c.index_mut.ensures.value in
    let d = c.dismiss.ensures in (
      was.0,
      rigged_set (Made g.P.Serves.may g.P.Serves.tells g.P.Serves.calls g.P.Serves.faults) _ posts _ was.1
          c.loop-at.at c.index.result.now c.index_mut.result.now c.dismiss.new.post low value (search rules) d.posted
          (ap (λ (x : Place g.row.P.Denot). number_of x) d.same),
      marks_set posts c.loop-at.at c.index_mut.result.now c.dismiss.new.post low
          (ap (λ (x : Place g.row.P.Denot). before_of x) (d.same ∙ ap (λ (x : Post g.row.P.Denot). x.place) value))
          (ap (λ (x : Place g.row.P.Denot). promise_of x) (d.same ∙ ap (λ (x : Post g.row.P.Denot). x.place) value))
          ∙ was.2,
      (λ k. sent_same posts c.loop-at.at c.index_mut.result.now c.dismiss.new.post low value d.sent k ∙ was.3 k),
      λ k x below.
          let Told : Post g.row.P.Denot → Type 0 = λ p. IsDismissed p.place (view p.orders).sent in
          below_more (λ j. Told (get_or (set posts c.loop-at.at c.dismiss.new.post) j x)) c.loop-at.at
          (λ j before.
          subst Told (sym (else_set posts c.loop-at.at j c.dismiss.new.post x (λ e. omega arith))) (was.4 j x before))
          (subst Told (sym (here_set posts c.loop-at.at c.dismiss.new.post x low))
          (dismissed c.index_mut.result.now c.dismiss.new.post d.same d.last))
          k (omega arith),
    )

pub returns-clause-dismissed : goal.returns-clause-dismissed
returns-clause-dismissed g c = record {
  each = λ k x low. c.loop-at.invariant.4 k x (grind rules);
}
