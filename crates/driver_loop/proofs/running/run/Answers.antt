use Rattle.std.proofs.Common.{refl, subst}
use Rattle.driver_loop.specs.Moments.{moment, pages}
use Rattle.driver_loop.specs.Turns.{Turned}
use Rattle.driver_loop.proofs.TurnLemmas.{goes_first}
use Rattle.driver_loop.proofs.running.run.Goals as goal

pub loop-init : goal.loop-init
loop-init g c = (
  refl,
  (c.requires.seats, c.requires.ready, refl, refl),
  c.requires.tied,
  goes_first g.B.Book.tells (moment (g.G.Dealer.steps c.args.board.now) (g.C.Crew.received c.args.crew.now)
      (g.C.Crew.sent c.args.crew.now) c.args.opens.now)
      (pages g.B.Book.notes g.B.Book.refusals g.B.Book.first g.B.Book.faults g.B.Book.is_broken c.args.book.now),
)

pub returns-in-Some-turn-clause-drove : goal.returns-in-Some-turn-clause-drove
returns-in-Some-turn-clause-drove g c =
    let m0 = (moment (g.G.Dealer.steps c.args.board.now) (g.C.Crew.received c.args.crew.now)
    (g.C.Crew.sent c.args.crew.now) c.args.opens.now) in
    let p0 = (pages g.B.Book.notes g.B.Book.refusals g.B.Book.first g.B.Book.faults g.B.Book.is_broken
    c.args.book.now) in
    let n = (moment (g.G.Dealer.steps c.turn.new.board) (g.C.Crew.received c.turn.new.crew)
    (g.C.Crew.sent c.turn.new.crew) c.turn.new.opens) in
    let q = (pages g.B.Book.notes g.B.Book.refusals g.B.Book.first g.B.Book.faults g.B.Book.is_broken
    c.turn.new.book) in
    subst (λ r. Turned (g.G.Dealer.is_end c.turn.new.board) g.B.Book.tells m0 n p0 q c.turn.new.fault r)
    c.in-Some-turn.is (c.turn.ensures.turned m0 p0 c.loop.invariant.3)
