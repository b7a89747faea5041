-- Room for seats while they are at work.
use Rattle.std.specs.Prelude.{◌≡◌, ◌≤◌, ℕ, [], None, replicate, vec_len, vec_items, vec_capacity}
use Rattle.std.specs.VecDeque.{deque_len, deque_capacity}
use Rattle.crew_workers.specs.Threads.{IsRoom}
use Rattle.worker_crew.specs.declared.rooms.Rooms.{Rooms}

-- there is room for so many seats, and no seat has an open job
pub record AreRooms {P : Type 0} (seats : ℕ) (rooms : Rooms P) : Type 0 where
  pub posts : IsRoom (vec_len rooms.posts) (vec_capacity rooms.posts) seats
  pub threads : IsRoom (deque_len rooms.threads) (deque_capacity rooms.threads) seats
  pub threads_none : rooms.threads.items ≡ []
  pub back : IsRoom (vec_len rooms.back) (vec_capacity rooms.back) seats
  pub chairs : (vec_len rooms.seats ≡ 0) × (seats ≤ vec_capacity rooms.seats)
  pub opens : vec_items rooms.opens ≡ replicate seats None
