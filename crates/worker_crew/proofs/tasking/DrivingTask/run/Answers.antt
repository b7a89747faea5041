use Rattle.std.proofs.Common.{List, Option, ◌∙◌, refl, subst, vec_items}
use Rattle.crossbeam_channel.specs.Claims.{view}
use Rattle.driver_loop.specs.Ends.{Drove}
use Rattle.driver_loop.specs.Moments.{moment, pages}
use Rattle.driver_loop.specs.declared.open_job.OpenJob.{OpenJob}
use Rattle.seat_calls.specs.Dones.{Made}
use Rattle.worker_crew.specs.Rigs.{IsRigged, sent_at}
use Rattle.crew_seating.specs.declared.ends.Ends.{Ends}
use Rattle.worker_crew.proofs.tasking.DrivingTask.run.Goals as goal

pub dismiss_all-posts-requires : goal.dismiss_all-posts-requires
dismiss_all-posts-requires g c =
    let f = c.run-ended.ensures.fixed in
    let rig = c.run-ended.new.crew in
    record {
      ready =
          subst (λ (e : Ends).
          IsRigged (Made g.P.Serves.may g.P.Serves.tells g.P.Serves.calls g.P.Serves.faults) e (vec_items rig.posts)
          rig.results) (λ i. (f i).0.now) c.run-ended.ensures.ready;
    }

pub returns-clause-kept : goal.returns-clause-kept
returns-clause-kept g c = let f = c.run-ended.ensures.fixed in c.dismiss_all-posts.ensures.marks ∙ (λ i. (f i).1)

pub returns-clause-gives : goal.returns-clause-gives
returns-clause-gives g c =
    let f = c.run-ended.ensures.fixed in
    let rig = c.run-ended.new.crew in
    let d = c.dismiss_all-posts.ensures in (
      refl,
      refl,
      d.ready,
      (
        c.run-ended.new.opens,
        sent_at (vec_items rig.posts),
        d.sent,
        subst (λ (opens : List (Option OpenJob)).
            Drove (g.G.Dealer.is_end c.run-ended.new.board) g.B.Book.tells
            (moment (g.G.Dealer.steps c.args.self.board.now) (view c.args.self.results).got
            (sent_at (vec_items c.args.posts)) opens)
            (moment (g.G.Dealer.steps c.run-ended.new.board) (view rig.results).got (sent_at (vec_items rig.posts))
            c.run-ended.new.opens)
            (pages g.B.Book.notes g.B.Book.refusals g.B.Book.first g.B.Book.faults g.B.Book.is_broken
            c.args.self.book.now)
            (pages g.B.Book.notes g.B.Book.refusals g.B.Book.first g.B.Book.faults g.B.Book.is_broken
            c.run-ended.new.book) c.run-ended.result)
            c.as_mut_slice.ensures.value c.run-ended.ensures.drove,
      ),
      c.run-ended.ensures.stays,
    )
