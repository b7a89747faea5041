use Rattle.std.proofs.Common.{◌<◌, sym, subst, vec_items}
use Rattle.driver_loop.specs.Moments.{pages}
use Rattle.seat_calls.specs.Dones.{Made}
use Rattle.worker_crew.specs.Driven.{HasDriven}
use Rattle.worker_crew.proofs.EndLemmas.{blamed_rose, blamed_refused}
use Rattle.worker_crew.proofs.driver.drive.Goals as goal

pub returns-clause-failed : goal.returns-clause-failed
returns-clause-failed g c k is =
    let made = Made g.P.Provider.may g.P.Provider.tells g.P.Provider.calls g.P.Provider.faults in
    let old = c.args.book.now in
    let new = c.drive_all.new.book in
    let p = pages g.B.Book.notes g.B.Book.refusals g.B.Book.first g.B.Book.faults g.B.Book.is_broken old in
    let q = pages g.B.Book.notes g.B.Book.refusals g.B.Book.first g.B.Book.faults g.B.Book.is_broken new in
    let end = g.G.Dealer.is_end c.drive_all.new.board in
    let s = g.G.Dealer.steps c.args.board.now in
    let t = g.G.Dealer.steps c.drive_all.new.board in
    let rose = blamed_rose g.P.Provider.may g.P.Provider.tells g.P.Provider.calls g.P.Provider.faults end
    g.B.Book.tells s t p q
    (vec_items c.args.seats.now) (vec_items c.drive_all.new.seats) k
    (subst (λ r.
    HasDriven made end g.B.Book.tells s t p q (vec_items c.args.seats.now) (vec_items c.drive_all.new.seats) r) is
    c.drive_all.ensures.drove) in
    (subst (λ n. k < n) (sym c.args.seats.now.ok.0) rose.0, rose.1)

pub returns-clause-refused : goal.returns-clause-refused
returns-clause-refused g c f is =
    let made = Made g.P.Provider.may g.P.Provider.tells g.P.Provider.calls g.P.Provider.faults in
    let old = c.args.book.now in
    let new = c.drive_all.new.book in
    let p = pages g.B.Book.notes g.B.Book.refusals g.B.Book.first g.B.Book.faults g.B.Book.is_broken old in
    let q = pages g.B.Book.notes g.B.Book.refusals g.B.Book.first g.B.Book.faults g.B.Book.is_broken new in
    let end = g.G.Dealer.is_end c.drive_all.new.board in
    let s = g.G.Dealer.steps c.args.board.now in
    let t = g.G.Dealer.steps c.drive_all.new.board in
    blamed_refused made end g.B.Book.tells s t p q (vec_items c.args.seats.now) (vec_items c.drive_all.new.seats) f
    (subst (λ r.
    HasDriven made end g.B.Book.tells s t p q (vec_items c.args.seats.now) (vec_items c.drive_all.new.seats) r) is
    c.drive_all.ensures.drove)
