use Rattle.std.proofs.Common.{arith, ap}
use Rattle.std.proofs.lemmas.List.{drop_more}
use Rattle.driver_fakes.specs.Kept.{size_of}
use Rattle.driver_fakes.proofs.notes.copies.Goals as goal

pub split_at-requires : goal.split_at-requires
split_at-requires c =
    let split = ap size_of
    (drop_more c.args.entries.now c.loop-entry.entry-index (record { kind = 0; first = 0; second = 0 })
    c.loop-entry-test.true) in
    omega (arith, split, c.loop-entry.invariant.size)
