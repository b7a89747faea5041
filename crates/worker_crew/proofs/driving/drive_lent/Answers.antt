use Rattle.std.proofs.Common.{◌≡◌, ◌<◌, ◌≤◌, ◌^◌, List, None, sym, ap, ◌∙◌, subst, length}
use Rattle.std.proofs.Common.{get_or, vec_items, vec_capacity}
use Rattle.crossbeam_channel.specs.Claims.{IsSeatAt}
use Rattle.crossbeam_channel.specs.Ends.{sends_on}
use Rattle.crew_workers.specs.Posts.{ArePosted, IsStationed}
use Rattle.crew_workers.specs.declared.channel.SeatChannel.{SeatChannel}
use Rattle.crew_workers.specs.declared.post.Post.{Post}
use Rattle.crew_seating.specs.Opened.{IsPaired}
use Rattle.driver_loop.specs.OpenJobs.{open_at}
use Rattle.driver_loop.proofs.TieLemmas.{tied_first}
use Rattle.seat_calls.specs.Dones.{Made}
use Rattle.worker_crew.proofs.CrewLemmas.{head_of, rigged_first, stationed_last, finishes}
use Rattle.worker_crew.proofs.RoomLemmas.{none_open, replicate_length}
use Rattle.worker_crew.proofs.driving.drive_lent.Goals as goal

pub crew-backs-requires-clause-may : goal.crew-backs-requires-clause-may
crew-backs-requires-clause-may g c κs within =
    let made = Made g.P.Provider.may g.P.Provider.tells g.P.Provider.calls g.P.Provider.faults in
    let up = c.requires.set_up in
    let n = length (vec_items c.args.stations) in
    let is = c.requires.rooms.opens in
    let value = c.as_slice-channels.ensures.value in
    let many : length (vec_items c.args.rooms.opens) ≡ n = ap length is ∙ replicate_length n None in
    let here : (all : List (Post g.row.P.Denot))
    → ArePosted made c.as_slice-channels.result.now (sends_on c.args.ends.now.to) (vec_items c.args.stations) all
    → ArePosted made (vec_items c.args.ends.now.channels) (sends_on c.args.ends.now.to) (vec_items c.args.stations) all
    = λ all posted.
    subst (λ (l : List SeatChannel). ArePosted made l (sends_on c.args.ends.now.to) (vec_items c.args.stations) all)
    value posted in
    record {
      len = sym up.len ∙ ap length (sym value);
      posts_wide = c.requires.rooms.posts;
      threads_wide = c.requires.rooms.threads;
      threads_none = c.requires.rooms.threads_none;
      back_wide = c.requires.rooms.back;
      ready = record {
        each = λ k d e low.
            subst (λ (l : List SeatChannel).
            IsStationed made (get_or l k e) (sends_on c.args.ends.now.to) (get_or (vec_items c.args.stations) k d))
            (sym value) (up.stationed k d e low).0;
      };
      can = λ all posted. (
        subst (λ m. m ≤ 2 ^ 32) (sym many) c.requires.few.1,
        (here all posted).len ∙ sym many,
        rigged_first made c.args.ends.now c.args.results (vec_items c.args.stations) all up (here all posted)
            (head_of (vec_items c.args.stations) c.requires.few.0),
        tied_first (g.G.Dealer.steps c.args.board.now) (vec_items c.args.rooms.opens) c.requires.none
            (λ k. ap (λ l. open_at l k) is ∙ none_open n k),
      );
    }

pub close-requires-clause-len : goal.close-requires-clause-len
close-requires-clause-len g c κs within =
    let x = c.crew-backs.ensures in
    c.crew-backs.result.0.ok.0 ∙ x.5.len ∙ sym x.3.2.len ∙ ap length (sym c.as_slice-channels.ensures.value)

pub close-requires-clause-room : goal.close-requires-clause-room
close-requires-clause-room g c κs within =
    let x = c.crew-backs.ensures in
    let r = c.requires.rooms.chairs in
    let same : length (vec_items c.crew-backs.result.0) ≡ length (vec_items c.args.stations)
    = x.5.len ∙ sym x.3.2.len ∙ c.requires.set_up.len in
    (r.0, subst (λ n. n ≤ vec_capacity c.args.rooms.seats) (sym (c.crew-backs.result.0.ok.0 ∙ same)) r.1)

pub close-requires-clause-stationed : goal.close-requires-clause-stationed
close-requires-clause-stationed g c κs within k d e low =
    let made = Made g.P.Provider.may g.P.Provider.tells g.P.Provider.calls g.P.Provider.faults in
    let x = c.crew-backs.ensures in
    let there : ArePosted made (vec_items c.args.ends.now.channels) (sends_on c.args.ends.now.to)
    (vec_items c.args.stations) x.0
    = subst (λ (l : List SeatChannel).
    ArePosted made l (sends_on c.args.ends.now.to) (vec_items c.args.stations) x.0) c.as_slice-channels.ensures.value
    x.2 in
    subst (λ (l : List SeatChannel).
    IsStationed made (get_or l k e) (sends_on c.args.ends.now.to) (get_or (vec_items c.crew-backs.result.0) k d)
    × IsPaired (get_or l k e)) (sym c.as_slice-channels.ensures.value)
    (stationed_last made c.args.ends.now c.args.results (vec_items c.args.stations) x.0 c.requires.set_up there x.1
    (vec_items c.crew-backs.result.0) c.crew-backs.result.1.2 x.3.2 x.4 x.5
    (head_of x.1 (subst (λ n. 0 < n) (sym c.requires.set_up.len ∙ x.3.2.len) c.requires.few.0)) k d e
    (subst (λ n. k < n) c.crew-backs.result.0.ok.0 low))

pub close-requires-clause-driver : goal.close-requires-clause-driver
close-requires-clause-driver g c κs within =
    let x = c.crew-backs.ensures in
    (subst (λ r. IsSeatAt r c.crew-backs.result.1.2) x.3.2.one x.3.2.at_results, x.3.2.receives)

pub returns-clause-drove : goal.returns-clause-drove
returns-clause-drove g c =
    let made = Made g.P.Provider.may g.P.Provider.tells g.P.Provider.calls g.P.Provider.faults in
    let x = c.crew-backs.ensures in
    let up = c.requires.set_up in
    let rigged = x.3.2 in
    let r = c.crew-backs.result.1 in
    let back = vec_items c.crew-backs.result.0 in
    let seats = vec_items c.close.result in
    let n = length (vec_items c.args.stations) in
    let is = c.requires.rooms.opens in
    let few : 0 < n = c.requires.few.0 in
    let there : ArePosted made (vec_items c.args.ends.now.channels) (sends_on c.args.ends.now.to)
    (vec_items c.args.stations) x.0
    = subst (λ (l : List SeatChannel).
    ArePosted made l (sends_on c.args.ends.now.to) (vec_items c.args.stations) x.0) c.as_slice-channels.ensures.value
    x.2 in
    let many : length seats ≡ length back = sym c.close.result.ok.0 ∙ c.close.ensures.len
    ∙ c.crew-backs.result.0.ok.0 in
    let left_many : n ≡ length x.1 = sym up.len ∙ rigged.len in
    let chair = head_of seats (subst (λ m. 0 < m) (left_many ∙ sym x.5.len ∙ sym many) few) in
    finishes made c.args.ends.now c.args.results (vec_items c.args.stations) x.0 up there x.1 back r.2 rigged x.4 x.5
    seats many
    (λ k d s low. c.close.ensures.seats k d s (subst (λ m. k < m) (sym c.crew-backs.result.0.ok.0) low))
    (c.close.ensures.others (subst (λ m. 0 < m) (left_many ∙ sym x.5.len ∙ sym c.crew-backs.result.0.ok.0) few))
    (g.G.Dealer.is_end r.0.now) g.B.Book.tells (g.G.Dealer.steps c.args.board.now) (g.G.Dealer.steps r.0.now) _ _
    (vec_items c.args.rooms.opens) (head_of x.1 (subst (λ m. 0 < m) left_many few))
    (head_of x.0 (subst (λ m. 0 < m) (sym there.len) few))
    (head_of (vec_items c.args.ends.now.channels) (subst (λ m. 0 < m) (sym up.len) few))
    (head_of (vec_items c.args.stations) few) chair chair.provider (λ k. ap (λ l. open_at l k) is ∙ none_open n k) r.3
    x.3.3
