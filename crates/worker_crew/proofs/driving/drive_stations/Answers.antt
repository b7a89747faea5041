use Rattle.std.proofs.Common.{rules, ◌≡◌, subst, vec_items}
use Rattle.driver_loop.specs.Moments.{pages}
use Rattle.seat_calls.specs.Dones.{Made}
use Rattle.worker_crew.specs.Driven.{HasFinished}
use Rattle.worker_crew.proofs.driving.drive_stations.Goals as goal

pub returns-clause-drove : goal.returns-clause-drove
returns-clause-drove g c =
    let r = c.drive_booked-board_back.result in
    let name = c.drive_booked-board_back.ensures.name in
    let new = c.drive_booked-board_back.new.book in
    let board : r.0.now ≡ c.board-1.given.0 = search rules in
    subst (λ b.
    HasFinished (Made g.P.Provider.may g.P.Provider.tells g.P.Provider.calls g.P.Provider.faults)
    (g.G.Dealer.is_end b) g.B.Book.tells (g.G.Dealer.steps c.args.board.now) (g.G.Dealer.steps b)
    (pages g.B.Book.notes g.B.Book.refusals g.B.Book.first g.B.Book.faults g.B.Book.is_broken c.args.book.now)
    (pages g.B.Book.notes g.B.Book.refusals g.B.Book.first g.B.Book.faults g.B.Book.is_broken
    new) (vec_items c.args.stations)
    (vec_items r.1) r.2)
    board c.drive_booked-board_back.ensures.drove
