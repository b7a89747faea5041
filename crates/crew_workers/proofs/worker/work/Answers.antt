use Rattle.std.proofs.Common.{rules, ◌≡◌, true, false, refl, sym, ◌∙◌}
use Rattle.crew_workers.specs.Received.{received}
use Rattle.crew_workers.proofs.ReceivedLemmas.{none_run, run_more, run_last}
use Rattle.crew_workers.proofs.worker.work.Goals as goal

pub loop-init : goal.loop-init
loop-init g c = (c.requires, (refl, refl), none_run (received c.args.worker))

pub loop-preserved : goal.loop-preserved
loop-preserved g c =
    let was = c.loop.invariant in
    let got = c.do_order.ensures.received in
    let goes : c.do_order.result ≡ true = search rules in (
      c.do_order.ensures.seated,
      (search rules, search rules),
      run_more (received c.args.worker) (received c.loop.working) _ got.0 was.2 got.1 (sym got.2 ∙ goes),
    )

pub returns-then-not-do_order-clause-stopped : goal.returns-then-not-do_order-clause-stopped
returns-then-not-do_order-clause-stopped g c =
    let got = c.do_order.ensures.received in
    let ends : c.do_order.result ≡ false = search rules in
    run_last (received c.args.worker) (received c.loop.working) _ got.0 c.loop.invariant.2 got.1 (sym got.2 ∙ ends)
