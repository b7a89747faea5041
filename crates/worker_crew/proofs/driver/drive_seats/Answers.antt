use Rattle.std.proofs.Common.{arith, ◌≡◌, ◌<◌, ◌≤◌, ◌^◌, sym, ◌∙◌, subst, length, vec_items, vec_len}
use Rattle.seat_calls.specs.Dones.{Made}
use Rattle.seat_calls.proofs.DoneLemmas.{made_none}
use Rattle.crew_seating.proofs.SetUpLemmas.{set_up_all}
use Rattle.worker_crew.specs.Rooms.{AreRooms}
use Rattle.worker_crew.proofs.CrewLemmas.{head_of}
use Rattle.worker_crew.proofs.EndLemmas.{ends_as, no_jobs}
use Rattle.worker_crew.proofs.driver.drive_seats.Goals as goal

pub drive_stations-requires-clause-few : goal.drive_stations-requires-clause-few
drive_stations-requires-clause-few g c κs within =
    let st = c.station_all-stations in
    let few = c.requires.few in
    let same : vec_len c.args.seats ≡ length (vec_items st.result) = sym st.ensures.len ∙ st.result.ok.0 in
    (subst (λ n. 0 < n) same few.0, subst (λ n. n ≤ 2 ^ 32) same (let most = few.1 in omega arith))

pub drive_stations-requires-clause-rooms : goal.drive_stations-requires-clause-rooms
drive_stations-requires-clause-rooms g c κs within =
    let st = c.station_all-stations in
    subst (λ n. AreRooms n c.args.rooms) (sym st.ensures.len ∙ st.result.ok.0) c.requires.rooms

pub drive_stations-requires-clause-set_up : goal.drive_stations-requires-clause-set_up
drive_stations-requires-clause-set_up g c κs within =
    let opened = c.requires.channels in
    let st = c.station_all-stations in
    let n = vec_len c.args.seats in
    let some : 0 < n = c.requires.few.0 in
    let many = c.args.seats.ok.0 in
    set_up_all (Made g.P.Provider.may g.P.Provider.tells g.P.Provider.calls g.P.Provider.faults)
    (made_none g.P.Provider.may g.P.Provider.tells g.P.Provider.calls g.P.Provider.faults) c.args.opened
    (vec_items c.args.seats) (vec_items st.result) n opened (sym many) (sym st.result.ok.0 ∙ st.ensures.len)
    (λ k s p d low. st.ensures.each k s p d (subst (λ m. k < m) (sym many) low))
    (head_of (vec_items c.args.seats) (subst (λ m. 0 < m) many some))
    (head_of c.args.opened.passes.items (subst (λ m. 0 < m) (sym opened.seats_open.passes_len) some))

pub returns-clause-drove : goal.returns-clause-drove
returns-clause-drove g c =
    let st = c.station_all-stations in
    let some : 0 < vec_len c.args.seats = c.requires.few.0 in
    let many = c.args.seats.ok.0 in
    let passes = head_of c.args.opened.passes.items
    (subst (λ m. 0 < m) (sym c.requires.channels.seats_open.passes_len) some) in
    let d = head_of (vec_items st.result) (subst (λ m. 0 < m) (sym st.ensures.len ∙ st.result.ok.0) some) in
    ends_as (Made g.P.Provider.may g.P.Provider.tells g.P.Provider.calls g.P.Provider.faults) _ _ _ _ _ _
    (vec_items st.result) (vec_items c.args.seats) _ (sym st.result.ok.0 ∙ st.ensures.len ∙ many)
    (λ k e t low. (st.ensures.each k t passes e (subst (λ m. k < m) (sym many) low)).first) d _
    c.drive_stations.ensures.drove

pub returns-clause-free : goal.returns-clause-free
returns-clause-free g c =
    let st = c.station_all-stations in
    let some : 0 < vec_len c.args.seats = c.requires.few.0 in
    let many = c.args.seats.ok.0 in
    let passes = head_of c.args.opened.passes.items
    (subst (λ m. 0 < m) (sym c.requires.channels.seats_open.passes_len) some) in
    no_jobs (Made g.P.Provider.may g.P.Provider.tells g.P.Provider.calls g.P.Provider.faults) _ _ _ _ _ _
    (vec_items st.result) (vec_items c.args.seats) _ (sym st.result.ok.0 ∙ st.ensures.len ∙ many)
    (λ k e t low. (st.ensures.each k t passes e (subst (λ m. k < m) (sym many) low)).first) _
    c.drive_stations.ensures.drove
