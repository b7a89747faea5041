use Rattle.std.proofs.Common.{rules, vec_items, ap, ◌∙◌}
use Rattle.crossbeam_channel.specs.Claims.{view}
use Rattle.crew_channels.specs.Orders.{jobs_in}
use Rattle.crew_channels.proofs.OrderLemmas.{jobs_run}
use Rattle.crew_workers.specs.Posts.{before_of, promise_of}
use Rattle.crew_workers.specs.declared.post.Post.{Post}
use Rattle.crew_workers.proofs.MarkLemmas.{marks_set}
use Rattle.seat_calls.specs.Dones.{Made}
use Rattle.worker_crew.proofs.RigLemmas.{rigged_at, rigged_set, sent_job}
use Rattle.worker_crew.proofs.rig.RigCrew.send.Goals as goal

pub command-requires : goal.command-requires
command-requires g c = record {
  posted =
      rigged_at (Made g.P.Serves.may g.P.Serves.tells g.P.Serves.calls g.P.Serves.faults) _
      (vec_items c.args.self.now.posts) _ c.requires.ready c.args.worker c.index.result.now c.index_mut.result.now
      (search rules) (search rules) c.index_mut.ensures.value;
}

pub returns-clause-ready : goal.returns-clause-ready
returns-clause-ready g c =
    rigged_set (Made g.P.Serves.may g.P.Serves.tells g.P.Serves.calls g.P.Serves.faults) _
    (vec_items c.args.self.now.posts) _ c.requires.ready c.args.worker c.index.result.now c.index_mut.result.now
    c.command.new.post (search rules) c.index_mut.ensures.value
    (search rules) c.command.ensures.posted c.command.ensures.same.0

pub returns-clause-fixed : goal.returns-clause-fixed
returns-clause-fixed g c =
    let value = c.index_mut.ensures.value in
    let same = c.command.ensures.same in
    let kept = marks_set (vec_items c.args.self.now.posts) c.args.worker c.index_mut.result.now c.command.new.post
    (search rules) (same.1 ∙ ap (λ (x : Post g.row.P.Denot). before_of x.place) value)
    (same.2 ∙ ap (λ (x : Post g.row.P.Denot). promise_of x.place) value) in
    λ i. (c.args.self.now.ends, kept i)

pub returns-clause-sent : goal.returns-clause-sent
returns-clause-sent g c =
    sent_job (vec_items c.args.self.now.posts) c.args.worker c.index_mut.result.now c.command.new.post c.args.job
    (search rules) c.index_mut.ensures.value
    (ap jobs_in c.command.ensures.sent ∙ jobs_run (view c.index_mut.result.now.orders).sent c.args.job)
