use Rattle.std.proofs.Common.{subst, sym, vec_items}
use Rattle.driver_loop.specs.Moments.{pages}
use Rattle.worker_crew.specs.Driven.{HasNoJobs}
use Rattle.worker_crew.proofs.EndLemmas.{unchanged}
use Rattle.worker_crew.proofs.driver.drive_all.Goals as goal

pub returns-in_default-prepare-clause-drove : goal.returns-in_default-prepare-clause-drove
returns-in_default-prepare-clause-drove g c =
    unchanged g.P.Provider.may g.P.Provider.tells g.P.Provider.calls g.P.Provider.faults
    (g.G.Dealer.is_end c.args.board.now) g.B.Book.tells (g.G.Dealer.steps c.args.board.now)
    (pages g.B.Book.notes g.B.Book.refusals g.B.Book.first g.B.Book.faults g.B.Book.is_broken c.args.book.now)
    (vec_items c.args.seats.now) c.requires.none

pub returns-in-Well-clause-free : goal.returns-in-Well-clause-free
returns-in-Well-clause-free g c =
    subst (λ v. HasNoJobs (vec_items v)) (sym c.replace.ensures.after) c.drive_seats-back.ensures.free

pub returns-in-Failed-clause-free : goal.returns-in-Failed-clause-free
returns-in-Failed-clause-free g c =
    subst (λ v. HasNoJobs (vec_items v)) (sym c.replace.ensures.after) c.drive_seats-back.ensures.free
