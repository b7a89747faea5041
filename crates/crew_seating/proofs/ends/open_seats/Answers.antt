use Rattle.std.proofs.Common.{rules, ◌+◌, sym, subst, List, vec_items}
use Rattle.crossbeam_channel.specs.Ends.{sends_on}
use Rattle.crew_seating.specs.Opened.{AreOpen, IsOpenSeat}
use Rattle.crew_seating.specs.declared.ends.SeatPasses.{SeatPasses}
use Rattle.crew_seating.proofs.OpenLemmas.{open_none, open_more}
use Rattle.crew_seating.proofs.ends.open_seats.Goals as goal
use Rattle.crew_workers.specs.declared.channel.SeatChannel.{SeatChannel}

pub loop-number-init : goal.loop-number-init
loop-number-init c = (
  c.requires.0,
  c.requires.1,
  subst (λ (y : List SeatChannel × List SeatPasses). AreOpen (sends_on c.args.to.now) 0 y.0 y.1)
      (λ i. (sym c.in_ok-channels.ensures.items i, sym c.in-Ok.ensures.items i)) (open_none (sends_on c.args.to.now)),
  (search rules, search rules),
)

pub loop-number-preserved : goal.loop-number-preserved
loop-number-preserved c =
    let was = c.loop-number.invariant in
    let seat = c.in-Ok-open_seat.seat in
    let open_so : IsOpenSeat (sends_on c.args.to.now) c.loop-number.number seat.channel seat.passes = search rules in (
      c.open_seat.ensures.pass,
      search rules,
      subst (λ (y : List SeatChannel × List SeatPasses).
          AreOpen (sends_on c.args.to.now) (c.loop-number.number + 1) y.0 y.1)
          (λ i. (sym c.add_seat.ensures.channels i, sym c.add_seat.ensures.passes i))
          (open_more (sends_on c.args.to.now) c.loop-number.number (vec_items c.loop-number.channels)
          c.loop-number.passes.items seat.channel seat.passes was.2 open_so),
      (search rules, search rules),
    )
