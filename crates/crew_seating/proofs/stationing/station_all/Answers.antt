use Rattle.std.proofs.Common.{rules, arith, ◌≡◌, ◌+◌, ◌<◌, suc, ◌∷◌, length, get_or, vec_items, vec_len}
use Rattle.std.proofs.Common.{below_more, sym, ap, ◌∙◌, subst}
use Rattle.std.specs.Vec.Iter.{into_iter_items}
use Rattle.seat_calls.specs.declared.seat.Seat.{Seat}
use Rattle.crew_workers.specs.declared.post.Station.{Station}
use Rattle.crew_seating.specs.Opened.{IsStationOf}
use Rattle.crew_seating.specs.declared.ends.SeatPasses.{SeatPasses}
use Rattle.crew_seating.proofs.stationing.station_all.Goals as goal

pub loop-seat-init : goal.loop-seat-init
loop-seat-init g c =
    let none : vec_len c.args.room ≡ 0 = c.requires.room.0 in
    let same : vec_items c.args.seats ≡ into_iter_items c.into_iter-seat-iterator.result = search rules in
    let passes = c.args.passes.items in (
      search rules,
      search rules,
      (λ k d low.
          let at : k ≡ vec_len c.args.room + k = omega arith in
          ap (λ l. get_or l k d) (sym same) ∙ ap (λ n. get_or (vec_items c.args.seats) n d) at),
      omega arith,
      (λ k d low. let at : k ≡ vec_len c.args.room + k = omega arith in ap (λ n. get_or passes n d) at),
      λ k s p d low. let below : k < 0 = subst (λ n. k < n) none low in absurd (omega arith),
    )

pub loop-seat-preserved : goal.loop-seat-preserved
loop-seat-preserved g c =
    let was = c.loop-seat.invariant in let done = vec_len c.loop-seat.stations in
    let pushed = c.put in let all = vec_items pushed.new.list in
    let steps = c.in-Some.ensures.steps.0 in let less = c.in-Some.ensures.steps.1 in
    let seats = vec_items c.args.seats in let passes = c.args.passes.items in
    let grown : vec_len pushed.new.list ≡ done + 1 = search rules in
    let front : c.loop-seat.left.items ≡ c.take_first-passes.result ∷ c.take_first-passes.new.list.items
    = c.take_first-passes.ensures in
    let many = ap length front in
    let its : (s : Seat g.row.P.Denot) → c.in-Some.seat ≡ get_or seats done s = λ s. let h = was.2 0 s in grind rules in
    let own : (p : SeatPasses) → get_or passes done p ≡ c.take_first-passes.result
    = λ p.
    ap (λ n. get_or passes n p) (omega arith) ∙ sym (was.4 0 p (omega arith)) ∙ ap (λ l. get_or l 0 p) front in (
      search rules,
      search rules,
      (λ k d below.
          sym (ap (λ l. get_or l (suc k) d) steps) ∙ was.2 (suc k) d (let e = less in omega arith)
          ∙ ap (λ n. get_or seats n d) (omega arith)),
      (let w = was.3 in omega arith),
      (λ k d below.
          sym (ap (λ l. get_or l (suc k) d) front) ∙ was.4 (suc k) d (omega arith)
          ∙ ap (λ n. get_or passes n d) (omega arith)),
      λ i s p d below.
          below_more (λ j. IsStationOf (get_or seats j s) (get_or passes j p) (get_or all j d)) done
          (λ j low.
          subst (λ y. IsStationOf (get_or seats j s) (get_or passes j p) y) (sym (pushed.ensures.before j d low))
          (was.5 j s p d low))
          (subst (λ (y : Seat g.row.P.Denot × SeatPasses × Station g.row.P.Denot). IsStationOf y.0 y.1 y.2)
          (λ i. (its s i, sym (own p) i, sym (pushed.ensures.last d) i)) c.station.ensures)
          i (omega arith),
    )

pub returns-clause-each : goal.returns-clause-each
returns-clause-each g c k s p d below =
    c.loop-seat.invariant.5 k s p d
    (let i = c.loop-seat.invariant.0 in let e = c.in-None.ensures in grind rules)
