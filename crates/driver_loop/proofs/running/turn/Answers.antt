use Rattle.std.proofs.Common.{rules, None, Some, subst}
use Rattle.driver_loop.specs.Moments.{moment, pages}
use Rattle.driver_loop.specs.Turns.{GoesOn}
use Rattle.driver_loop.proofs.TurnLemmas.{goes_ask, closes}
use Rattle.driver_loop.proofs.running.turn.Goals as goal

pub returns-then-not-has_no_job-clause-turned : goal.returns-then-not-has_no_job-clause-turned
returns-then-not-has_no_job-clause-turned g c m0 p0 was =
    let m = (moment (g.G.Dealer.steps c.args.board.now) (g.C.Crew.received c.args.crew.now)
    (g.C.Crew.sent c.args.crew.now) c.args.opens.now) in
    let n = (moment (g.G.Dealer.steps c.ask-ended.new.board) (g.C.Crew.received c.ask-ended.new.crew)
    (g.C.Crew.sent c.ask-ended.new.crew) c.ask-ended.new.opens) in
    let p = (pages g.B.Book.notes g.B.Book.refusals g.B.Book.first g.B.Book.faults g.B.Book.is_broken
    c.args.book.now) in
    let asked : GoesOn g.B.Book.tells m0 n p0 p c.ask-ended.new.fault
    = goes_ask g.B.Book.tells m0 p0 m n p c.args.fault.now c.ask-ended.new.fault was c.ask-ended.ensures.ran in
    c.take.ensures.turned m0 p0 asked

pub returns-in-Some-clause-turned : goal.returns-in-Some-clause-turned
returns-in-Some-clause-turned g c m0 p0 was =
    let m = (moment (g.G.Dealer.steps c.args.board.now) (g.C.Crew.received c.args.crew.now)
    (g.C.Crew.sent c.args.crew.now) c.args.opens.now) in
    let n = (moment (g.G.Dealer.steps c.ask-ended.new.board) (g.C.Crew.received c.ask-ended.new.crew)
    (g.C.Crew.sent c.ask-ended.new.crew) c.ask-ended.new.opens) in
    let p = (pages g.B.Book.notes g.B.Book.refusals g.B.Book.first g.B.Book.faults g.B.Book.is_broken
    c.args.book.now) in
    let asked : GoesOn g.B.Book.tells m0 n p0 p c.ask-ended.new.fault
    = goes_ask g.B.Book.tells m0 p0 m n p c.args.fault.now c.ask-ended.new.fault was c.ask-ended.ensures.ran in
    closes g.B.Book.tells m0 p0 n p (Some c.in-Some.fault)
    (subst (λ x. GoesOn g.B.Book.tells m0 n p0 p x) c.in-Some.is asked) c.ask-ended.ensures.tied
    (c.has_no_job.ensures.yes (search rules))

pub returns-then-ended-clause-turned : goal.returns-then-ended-clause-turned
returns-then-ended-clause-turned g c m0 p0 was =
    let m = (moment (g.G.Dealer.steps c.args.board.now) (g.C.Crew.received c.args.crew.now)
    (g.C.Crew.sent c.args.crew.now) c.args.opens.now) in
    let n = (moment (g.G.Dealer.steps c.ask-ended.new.board) (g.C.Crew.received c.ask-ended.new.crew)
    (g.C.Crew.sent c.ask-ended.new.crew) c.ask-ended.new.opens) in
    let p = (pages g.B.Book.notes g.B.Book.refusals g.B.Book.first g.B.Book.faults g.B.Book.is_broken
    c.args.book.now) in
    let asked : GoesOn g.B.Book.tells m0 n p0 p c.ask-ended.new.fault
    = goes_ask g.B.Book.tells m0 p0 m n p c.args.fault.now c.ask-ended.new.fault was c.ask-ended.ensures.ran in
    let e = c.ask-ended.ensures.end c.if-ended.true in (
      e.0,
      closes g.B.Book.tells m0 p0 n p None (subst (λ x. GoesOn g.B.Book.tells m0 n p0 p x) e.1 asked)
          c.ask-ended.ensures.tied (c.has_no_job.ensures.yes (search rules)),
    )

pub returns-else-ended-clause-turned : goal.returns-else-ended-clause-turned
returns-else-ended-clause-turned g c m0 p0 was =
    let m = (moment (g.G.Dealer.steps c.args.board.now) (g.C.Crew.received c.args.crew.now)
    (g.C.Crew.sent c.args.crew.now) c.args.opens.now) in
    let n = (moment (g.G.Dealer.steps c.ask-ended.new.board) (g.C.Crew.received c.ask-ended.new.crew)
    (g.C.Crew.sent c.ask-ended.new.crew) c.ask-ended.new.opens) in
    let p = (pages g.B.Book.notes g.B.Book.refusals g.B.Book.first g.B.Book.faults g.B.Book.is_broken
    c.args.book.now) in
    let asked : GoesOn g.B.Book.tells m0 n p0 p c.ask-ended.new.fault
    = goes_ask g.B.Book.tells m0 p0 m n p c.args.fault.now c.ask-ended.new.fault was c.ask-ended.ensures.ran in
    asked
