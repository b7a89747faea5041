-- Seats are at their channels.
use Rattle.std.proofs.Common.{◌≡◌, ◌<◌, ℕ, true, false, List, [], sym, ap, ◌∙◌, subst, length, get_or, vec_items}
use Rattle.crossbeam_channel.specs.Claims.{view, IsSeatAt}
use Rattle.crossbeam_channel.specs.Ends.{sends_on}
use Rattle.crew_channels.specs.Orders.{orders, jobs_in}
use Rattle.crew_channels.specs.Results.{results}
use Rattle.crew_channels.specs.Rings.{DoneRing}
use Rattle.crew_channels.specs.declared.orders.Orders.{Orders}
use Rattle.crew_channels.specs.declared.results.Results.{Results}
use Rattle.crew_workers.specs.Posts.{IsStationed}
use Rattle.crew_workers.specs.declared.channel.SeatChannel.{SeatChannel}
use Rattle.crew_workers.specs.declared.post.Station.{Station}
use Rattle.seat_calls.specs.Dones.{jobs_of}
use Rattle.seat_calls.specs.declared.done.Done.{Done}
use Rattle.seat_calls.specs.declared.seat.Seat.{Seat}
use Rattle.seat_calls.proofs.DoneLemmas.{jobs_none}
use Rattle.crew_seating.specs.Opened.{IsOpenSeat, IsOpen, IsStationOf, IsFresh, AreSetUp}
use Rattle.crew_seating.specs.declared.ends.Opened.{Opened}
use Rattle.crew_seating.specs.declared.ends.SeatPasses.{SeatPasses}

module _ {P : Type 0} (made : P → P → List Done → Type 0) (none_made : (before : P) → made before before []) where
  -- a seat at its opened_so channel
  pub set_up_one : (to : DoneRing) (k : ℕ) (channel : SeatChannel) (passes : SeatPasses) (seat : Seat P)
      (station : Station P) → IsOpenSeat to k channel passes → IsStationOf seat passes station
      → IsStationed made channel to station × IsFresh k station
  set_up_one to k channel passes seat station opened_so at =
      let own : view station.worker.orders ≡ orders false true [] [] = ap view at.got ∙ opened_so.new_orders in
      let put : view station.worker.results ≡ results false true 0 k [] [] = ap view at.put ∙ opened_so.new_results in
      let sent : view station.orders ≡ orders true false [] [] = ap view at.sent ∙ opened_so.new_driver in (
        record {
          at_orders = subst (λ x. IsSeatAt (sends_on channel.sender) x) (sym at.sent) opened_so.at_driver;
          sends = ap (λ (x : Orders). x.sends) sent;
          seated = record {
            at_orders =
                subst (λ r. IsSeatAt r station.worker.orders) (sym opened_so.paired)
                (subst (λ x. IsSeatAt (sends_on channel.sender) x) (sym at.got) opened_so.at_orders);
            at_results = subst (λ x. IsSeatAt to x) (sym at.put) opened_so.at_results;
            orders_role = own ∙ ap (λ g. orders false true [] g) (sym (ap (λ (x : Orders). x.got) own));
            results_role =
                put
                ∙ ap (λ n. results false true 0 n [] []) (sym (at.numbered ∙ opened_so.numbered))
                ∙ ap (λ s. results false true 0 station.worker.number s [])
                (sym (ap (λ (x : Results). x.sent) put));
            calls =
                subst (λ s. made station.worker.before.value station.worker.provider s)
                (sym (ap (λ (x : Results). x.sent) put))
                (subst (λ x. made station.worker.before.value x []) (at.first ∙ sym at.same)
                (none_made station.worker.before.value));
            jobs =
                ap (λ (x : Results). jobs_of x.sent) put ∙ jobs_none
                ∙ ap (λ (x : Orders). jobs_in x.got) (sym own);
          };
        },
        (at.numbered ∙ opened_so.numbered, ap (λ (x : Orders). x.sent) sent),
      )

  -- all seats at their opened_so channels
  pub set_up_all : (opened : Opened) (seats : List (Seat P)) (stations : List (Station P)) (n : ℕ) → IsOpen n opened
      → length seats ≡ n → length stations ≡ n
      → ((k : ℕ) (s : Seat P) (p : SeatPasses) (d : Station P) → k < length seats
      → IsStationOf (get_or seats k s) (get_or opened.passes.items k p) (get_or stations k d))
      → Seat P → SeatPasses → AreSetUp made opened.ends opened.results stations
  set_up_all opened seats stations n opened_so sl tl each seat passes = record {
    len = opened_so.seats_open.channels_len ∙ sym tl;
    one = opened_so.one;
    paired = λ k e low. (opened_so.seats_open.each k e passes (subst (λ m. k < m) tl low)).paired;
    stationed = λ k d e low.
        set_up_one (sends_on opened.ends.to) k (get_or (vec_items opened.ends.channels) k e)
        (get_or opened.passes.items k passes) (get_or seats k seat) (get_or stations k d)
        (opened_so.seats_open.each k e passes (subst (λ m. k < m) tl low))
        (each k seat passes d (subst (λ m. k < m) (tl ∙ sym sl) low));
    at_results = opened_so.at_results;
    new_results = opened_so.new_results ∙ ap (λ m. results true false m 0 [] []) (sym tl);
  }
