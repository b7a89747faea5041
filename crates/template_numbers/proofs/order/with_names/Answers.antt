use Rattle.std.proofs.Common.{◌≡◌, ◌<◌, ◌+◌, ◌-◌, get_or, length, arith}
use Rattle.std.proofs.lemmas.Option.{slice_get-get_or}
use Rattle.declared_table.specs.Seen.{file_in}
use Rattle.template_numbers.proofs.OrderLemmas.{one_named}
use Rattle.template_numbers.proofs.order.with_names.Goals as goal

pub numbers-preserved : goal.numbers-preserved
numbers-preserved c =
    let xs = c.args.numbers.now in
    let left = c.numbers.left in
    let some = c.numbers-test.true in
    let within = c.numbers.invariant.within in
    let low : left - 1 < length xs = omega (arith, some, within) in
    let next : left ≡ left - 1 + 1 = omega (arith, some) in
    record {
      named =
          one_named (file_in c.args.table.now) xs c.numbers.named c.in_ok-named.named left (left - 1)
          (get_or xs (left - 1) 0) c.requires.increase
          (slice_get-get_or xs (left - 1) 0 low) next
          c.numbers.invariant.named c.in_ok-named.ensures;
      within = omega (arith, within);
    }
