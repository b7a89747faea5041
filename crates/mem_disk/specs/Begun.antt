-- How a call of a disk in memory begins.
use Rattle.std.specs.Prelude.{◌≡◌, ℕ, ◌+◌, ◌<◌, ◌≤◌, true, false}
use Rattle.arm_edges.specs.Calls.{is_listed, limit_at, one_more}
use Rattle.arm_edges.specs.Faults.{Rose}
use Rattle.arm_edges.specs.declared.calls.Calls.{Calls}
use Rattle.mem_disk.specs.declared.begun.Begun.{Begun}
use Rattle.mem_disk.specs.declared.begun.Begun.TheVariants.{Refused, Fails, Goes}

-- a call takes one of those that are left, where one is, and fails where its number is listed; its count rises by one
-- exactly where it does not go on, and nothing else changes
abbrev pub Begins : Begun → ℕ → ℕ → Calls → Calls → Type 0
Begins Refused left after old new = (left ≡ 0) × (after ≡ left) × (new ≡ record old { faults = one_more old.faults })
    × (old.faults ≤ new.faults) × Rose old.faults new.faults
Begins Fails left after old new =
    (after + 1 ≡ left) × (is_listed old.fails.items old.made ≡ true)
    × (new ≡ record old { made = one_more old.made; faults = one_more old.faults }) × (old.faults ≤ new.faults)
    × Rose old.faults new.faults
Begins (Goes limit) left after old new =
    (after + 1 ≡ left) × (is_listed old.fails.items old.made ≡ false)
    × (new ≡ record old { made = one_more old.made }) × (limit ≡ limit_at old.cuts.items old.made) × (0 < limit)
