use Rattle.std.proofs.Common.{subst}
use Rattle.arm_env.specs.Answer.{Stops}
use Rattle.arm_env.specs.Cell.{look_of}
use Rattle.reading.specs.Knowledge.{told}
use Rattle.plan_telling.specs.Seats.{known_in}
use Rattle.point_sights.specs.PointSeats.{seat_now}
use Rattle.point_sights.proofs.TellNowLemmas.{nothing_told, cell_stops}
use Rattle.point_sights.proofs.lacks.lack_of.Goals as goal

pub returns-in-NoValue : goal.returns-in-NoValue
returns-in-NoValue c =
    λ loops r h.
    let t = c.args.register.now.table in
    let l = c.args.later.now in
    nothing_told t l c.args.frame c.args.place.now loops c.args.by_names r
    (subst (λ s. Stops s (told (known_in (seat_now t l c.args.frame c.args.place.now loops c.args.by_names)) r))
    c.in-NoValue.is h)

pub returns-in-Waits : goal.returns-in-Waits
returns-in-Waits c =
    λ loops r h.
    let t = c.args.register.now.table in
    let l = c.args.later.now in
    cell_stops t l c.args.frame c.args.place.now loops c.args.by_names r (look_of c.in-Waits.cell) c.lack_at-lack.result
    (subst (λ s. Stops s (told (known_in (seat_now t l c.args.frame c.args.place.now loops c.args.by_names)) r))
    c.in-Waits.is h)
    (c.lack_at-lack.ensures loops)

pub returns-in-OutOfMemory : goal.returns-in-OutOfMemory
returns-in-OutOfMemory c = λ loops r h. tt
