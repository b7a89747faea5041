use Rattle.std.proofs.Common.{rules, arith, ◌≡◌, ◌+◌, ◌≤◌, None, suc, get_or, vec_items, vec_len, below_more, sym, ap}
use Rattle.std.proofs.Common.{◌∙◌}
use Rattle.std.proofs.Common.{subst, List}
use Rattle.std.proofs.lemmas.List.{get_or_default}
use Rattle.crossbeam_channel.specs.Claims.{view}
use Rattle.crossbeam_channel.specs.Ends.{sends_on}
use Rattle.crew_workers.specs.Posts.{IsStationed}
use Rattle.crew_workers.specs.declared.channel.SeatChannel.{SeatChannel}
use Rattle.crew_workers.specs.declared.post.Station.{Station}
use Rattle.seat_calls.specs.Dones.{Made}
use Rattle.seat_calls.specs.declared.done.Done.{Done}
use Rattle.seat_calls.specs.declared.seat.Seat.{Seat}
use Rattle.crew_seating.specs.Closed.{HasLeft, HasNone}
use Rattle.crew_seating.specs.Opened.{IsPaired}
use Rattle.crew_seating.proofs.closing.close.Goals as goal
use Rattle.crew_seating.proofs.closing.close.Goals.{After-index-channels-at}

its_channel : (g : _) (c : After-index-channels-at g) (e : SeatChannel)
    → get_or c.args.channels.now (vec_len c.loop-station.seats) e ≡ c.index-channels-at.result
its_channel g c e =
    let h = c.loop-station.invariant.0 in
    let s = c.in-Some.ensures.steps in
    let n = c.requires.len in
    ap (λ k. get_or c.args.channels.now k e) (sym c.len-at.ensures)
    ∙ get_or_default c.args.channels.now c.len-at.result e c.index-channels-at.result (search rules)
    ∙ sym c.index-channels-at.is

its_station : (g : _) (c : After-index-channels-at g) (d : Station g.row.P.Denot)
    → get_or (vec_items c.args.stations) (vec_len c.loop-station.seats) d ≡ c.in-Some.station
its_station g c d = let h = c.loop-station.invariant.2 0 d in grind rules

ready : (g : _) (c : After-index-channels-at g)
    → IsStationed (Made g.P.Provider.may g.P.Provider.tells g.P.Provider.calls g.P.Provider.faults)
    c.index-channels-at.result
    (sends_on c.args.to.now) c.in-Some.station × IsPaired c.index-channels-at.result
ready g c =
    subst (λ (y : SeatChannel × Station g.row.P.Denot).
    IsStationed (Made g.P.Provider.may g.P.Provider.tells g.P.Provider.calls g.P.Provider.faults) y.0
    (sends_on c.args.to.now) y.1 × IsPaired y.0)
    (λ i. (its_channel g c c.index-channels-at.result i, its_station g c c.in-Some.station i))
    (c.requires.stationed (vec_len c.loop-station.seats) c.in-Some.station c.index-channels-at.result
    (let h = c.loop-station.invariant.0 in grind rules))

pub close_one-seat-requires-clause-stationed : goal.close_one-seat-requires-clause-stationed
close_one-seat-requires-clause-stationed g c κs within =
    (ready g (goal.at.close_one-seat-requires-clause-stationed g c).After-index-channels-at).0

pub close_one-seat-requires-clause-paired : goal.close_one-seat-requires-clause-paired
close_one-seat-requires-clause-paired g c κs within =
    (ready g (goal.at.close_one-seat-requires-clause-paired g c).After-index-channels-at).1

pub loop-station-preserved : goal.loop-station-preserved
loop-station-preserved g c =
    let was = c.loop-station.invariant in let done = vec_len c.loop-station.seats in
    let pushed = c.put in let all = vec_items pushed.new.list in
    let steps = c.in-Some.ensures.steps.0 in let less = c.in-Some.ensures.steps.1 in
    let grown : vec_len pushed.new.list ≡ done + 1 = search rules in
    let here = (goal.at.loop-station-preserved g c).After-index-channels-at in
    let o = c.close_one-seat.ensures in
    let got = (view c.args.pass).got in
    let So : Station g.row.P.Denot → Seat g.row.P.Denot → Type 0
    = λ x y. (y.provider ≡ x.worker.provider) × (y.job ≡ None) × HasLeft got x in (
      search rules,
      search rules,
      (λ k d below.
          sym (ap (λ l. get_or l (suc k) d) steps) ∙ was.2 (suc k) d (let e = less in omega arith)
          ∙ ap (λ n. get_or (vec_items c.args.stations) n d) (omega arith)),
      o.driver,
      (o.same.0 ∙ was.4.0, o.same.1 ∙ was.4.1),
      (λ i d s below.
          below_more (λ j. So (get_or (vec_items c.args.stations) j d) (get_or all j s)) done
          (λ j low.
          subst (λ y. So (get_or (vec_items c.args.stations) j d) y) (sym (pushed.ensures.before j s low))
          (was.5 j d s low))
          (subst (λ (y : Station g.row.P.Denot × Seat g.row.P.Denot). So y.0 y.1)
          (λ i. (sym (its_station g here d) i, sym (pushed.ensures.last s) i))
          (o.seat.0, o.seat.1, subst (λ (l : List Done). HasLeft l c.in-Some.station) was.4.1 o.left))
          i (omega arith)),
      λ k some late.
          subst (λ (l : List Done). HasNone l k) was.4.1 (o.others k (subst (λ n. n ≤ k) (sym was.4.0) late)),
    )

pub returns-clause-seats : goal.returns-clause-seats
returns-clause-seats g c k d s below =
    c.loop-station.invariant.5 k d s
    (let i = c.loop-station.invariant.0 in let e = c.in-None.ensures in grind rules)
