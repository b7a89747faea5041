-- The calls of an object in memory, numbered from 0: which of them fail, and how much each moves at most.
use Rattle.std.specs.Prelude.{◌==◌, ℕ, ◌+◌, ◌-◌, min, max, Bool, if◌then◌else◌, List, length, slice_index, Result, Ok}
use Rattle.std.specs.Prelude.{Err}
use Rattle.arm_edges.specs.declared.faults.Failed.{Failed}
use Rattle.std.specs.List.{list_any}
use Rattle.arm_edges.specs.declared.calls.Calls.{Calls}

-- whether the call of that number is one of those that fail
abbrev pub is_listed : List ℕ → ℕ → Bool
is_listed fails call = list_any (λ k. k == call) fails

-- one more, in 64 bits
abbrev pub one_more : ℕ → ℕ
one_more n = min (n + 1) 18446744073709551615

-- how many bytes the call of that number moves at most: its cut, or the last cut after the end of the
-- list, but one byte at least; with no cuts any number
abbrev pub limit_at : List ℕ → ℕ → ℕ
limit_at cuts call = if length cuts == 0 then 18446744073709551615
    else max 1 (slice_index cuts (min call (length cuts - 1)))

-- the calls with one more made, which is counted as failed where it is listed
abbrev pub after_call : Calls → Calls
after_call calls =
    record calls {
      made = one_more calls.made;
      faults =
          (if is_listed calls.fails.items calls.made then one_more calls.faults else calls.faults);
    }

-- the calls with one more made, which is counted as failed where it answered so
abbrev pub answered : {T : Type 0} → Result T Failed → Calls → Calls
answered (Ok x) calls = record calls { made = one_more calls.made }
answered (Err e) calls = record calls { made = one_more calls.made; faults = one_more calls.faults }
