use Rattle.std.proofs.Common.{◌≡◌, ◌++◌, chars, string_bytes}
use Rattle.std.specs.Iterator.Adapters.{zip_first, zip_second}
use Rattle.std.specs.Slice.Iter.{iter_rest}
use Rattle.arm_ids.specs.Segments.{slashed, by_turns}
use Rattle.arm_ids.proofs.id.push_turns.Given as goal

abbrev pub invariant-loop-kind : goal.invariant-loop-kind
invariant-loop-kind l =
    chars (string_bytes l.text)
    ++ slashed (by_turns (iter_rest (zip_first l.kind-iterator)) (iter_rest (zip_second l.kind-iterator)))
    ≡ chars (string_bytes l.initial.text) ++ slashed (by_turns l.types l.names)
