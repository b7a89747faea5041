use Rattle.std.proofs.Common.{rules, ◌≡◌, ◌<◌, List, [], Option, length, sym, ◌∙◌, refl, subst}
use Rattle.driver_loop.specs.Moments.{Moment, moment}
use Rattle.driver_loop.specs.declared.open_job.OpenJob.{OpenJob}
use Rattle.driver_loop.proofs.RunLemmas.{ran_none, hands_none}
use Rattle.driver_loop.proofs.DealLemmas.{Dealt, free_at, asked_begun, deal_hand}
use Rattle.driver_loop.proofs.asking.deal.Goals as goal
use Rattle.driver_loop.proofs.asking.deal.Goals.{then-is_none+in-Ok+in_ok-job+in-Begun, else-is_none}

pub loop-k-init : goal.loop-k-init
loop-k-init g c =
    (refl, (c.requires.seats, c.requires.ready, refl, refl), c.requires.tied, [], hands_none, ran_none _)

pub loop-k-preserved : goal.loop-k-preserved
loop-k-preserved g c =
    let At : g.row.G.Denot → g.row.C.Denot → List (Option OpenJob) → Moment
    = λ b w o. moment (g.G.Dealer.steps b) (g.C.Crew.received w) (g.C.Crew.sent w) o in
    let Ready : g.row.G.Denot → g.row.C.Denot → Type 0
    = λ b w. (g.C.Crew.seats w ≡ length c.args.opens.now) × g.C.Crew.is_ready w
    × (g.C.Crew.fixed w ≡ g.C.Crew.fixed c.args.crew.now) × (g.G.Dealer.fixed b ≡ g.G.Dealer.fixed c.args.board.now) in
    let m0 = At c.args.board.now c.args.crew.now c.args.opens.now in
    let m = At c.loop-k.board c.loop-k.crew c.loop-k.opens in
    let So : g.row.G.Denot → g.row.C.Denot → List (Option OpenJob) → Type 0
    = λ b w o. Dealt m0 (At b w o) (Ready b w) in
    let low : c.loop-k.k < length c.loop-k.opens = search rules in
    elim c.if-is_none.branch [
      | then-is_none+in-Ok+in_ok-job+in-Begun w ↦ (
          let a = asked_begun _ _ _ _ _ _ w.in_ok-job.was w.in-Begun.is w.next.ensures.asked in
          let h = w.hand.ensures in
          subst (λ (y : g.row.G.Denot × g.row.C.Denot × List (Option OpenJob)). So y.0 y.1 y.2)
          (λ i. (sym w.board-is i, sym w.crew-is i, sym w.opens-is i))
          (deal_hand m0 m (At w.next.new.self w.hand.new.crew w.hand.new.opens) (Ready c.loop-k.board c.loop-k.crew)
          (Ready w.next.new.self w.hand.new.crew) w.in-Begun.job c.loop-k.k _ c.loop-k.invariant low
          (free_at c.loop-k.opens c.loop-k.k c.index-opens-k.result c.is_none.result low c.is_none.ensures
          w.if-is_none.true) w.in-Ok.ensures.1 a h.opens (
            h.seats ∙ c.loop-k.invariant.1.0,
            h.ready,
            h.fixed ∙ c.loop-k.invariant.1.2,
            w.next.ensures.fixed ∙ c.loop-k.invariant.1.3,
          ) h.sent h.received))
      | else-is_none w ↦ subst (λ (y : g.row.G.Denot × g.row.C.Denot × List (Option OpenJob)). So y.0 y.1 y.2)
          (λ i. (sym w.board-is i, sym w.crew-is i, sym w.opens-is i)) c.loop-k.invariant
    ]
