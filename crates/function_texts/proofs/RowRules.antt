-- Rows and members, listed and back: lemmas of `arm_value`, by names that the tactics of contracts can have.
use Rattle.arm_value.proofs.TreeLemmas.{members-pairs}
use Rattle.arm_value.proofs.SameLemmas.{items-row}

pub ruleset rows_and_pairs = (items-row, members-pairs)

pub ruleset items_of_row = (items-row)
