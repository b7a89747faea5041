use Rattle.std.proofs.Common.{cond, eqb, None, sym, ap, ◌∙◌}
use Rattle.dealer_trait.specs.Steps.{begun, given_back}
use Rattle.driver_loop.proofs.TieLemmas.{tied_end}
use Rattle.driver_loop.proofs.running.back_one.Goals as goal

pub back-requires : goal.back-requires
back-requires g c = let at = c.requires.at.1 in (
  at.0.job.value,
  ap (λ t. begun t (g.G.Dealer.steps c.args.board.now)) (sym at.2)
      ∙ (c.requires.tied.right c.args.k at.0 at.1).open_there,
)

pub returns-clause-tied : goal.returns-clause-tied
returns-clause-tied g c = let at =
    c.requires.at.1 in rw c.back.ensures.steps
    (tied_end (g.G.Dealer.steps c.args.board.now) c.args.opens.now c.requires.tied c.args.k at.0
    (given_back c.args.task) c.requires.at.0 at.1 (λ t b. ap (λ n. cond (eqb n t) None b) (sym at.2)))
