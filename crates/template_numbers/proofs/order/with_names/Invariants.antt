use Rattle.std.proofs.Common.{◌≤◌, drop, length}
use Rattle.declared_table.specs.Seen.{file_in}
use Rattle.template_numbers.specs.Named.{AreNamed}
use Rattle.template_numbers.proofs.order.with_names.Given as goal

-- the numbers that were looked at are there
abbrev pub invariant-numbers : goal.invariant-numbers
invariant-numbers l = record {
  named : AreNamed (file_in l.table) (drop l.left l.numbers) l.named;
  within : l.left ≤ length l.numbers;
}

abbrev pub decreases-numbers : goal.decreases-numbers
decreases-numbers l = l.left
