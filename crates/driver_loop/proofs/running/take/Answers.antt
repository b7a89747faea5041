use Rattle.std.proofs.Common.{rules}
use Rattle.driver_loop.specs.Moments.{moment, pages}
use Rattle.driver_loop.proofs.TurnLemmas.{goes_take, strays}
use Rattle.driver_loop.proofs.running.take.Goals as goal

pub returns-then-not-is_of_open_job-clause-turned : goal.returns-then-not-is_of_open_job-clause-turned
returns-then-not-is_of_open_job-clause-turned g c m0 p0 was =
    let m = (moment (g.G.Dealer.steps c.args.board.now) (g.C.Crew.received c.args.crew.now)
    (g.C.Crew.sent c.args.crew.now) c.args.opens.now) in
    let n = (moment (g.G.Dealer.steps c.give_back.new.board) (g.C.Crew.received c.receive-done.new.self)
    (g.C.Crew.sent c.receive-done.new.self) c.give_back.new.opens) in
    let r = c.receive-done.ensures in
    strays g.B.Book.tells m0 p0 m n
    (pages g.B.Book.notes g.B.Book.refusals g.B.Book.first g.B.Book.faults g.B.Book.is_broken c.args.book.now)
    c.args.fault.now c.receive-done.result was
    c.requires.tied (c.is_of_open_job.ensures.no (search rules)) r.sent r.received

pub returns-clause-turned : goal.returns-clause-turned
returns-clause-turned g c m0 p0 was =
    let m = (moment (g.G.Dealer.steps c.args.board.now) (g.C.Crew.received c.args.crew.now)
    (g.C.Crew.sent c.args.crew.now) c.args.opens.now) in
    let n = (moment (g.G.Dealer.steps c.settle.new.board) (g.C.Crew.received c.receive-done.new.self)
    (g.C.Crew.sent c.receive-done.new.self) c.settle.new.opens) in
    let r = c.receive-done.ensures in
    let s = c.settle.ensures in
    goes_take g.B.Book.tells m0 p0 m n
    (pages g.B.Book.notes g.B.Book.refusals g.B.Book.first g.B.Book.faults g.B.Book.is_broken c.args.book.now)
    (pages g.B.Book.notes g.B.Book.refusals g.B.Book.first g.B.Book.faults g.B.Book.is_broken
    c.settle.new.book) c.args.fault.now c.settle.result c.earlier.result c.receive-done.result was
    c.requires.tied (c.is_of_open_job.ensures.yes (search rules)) r.sent r.received s.opens s.settled c.earlier.ensures
