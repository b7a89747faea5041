use Rattle.std.proofs.Common.{◌≤◌, sym, subst, map, [], arith}
use Rattle.arm_value.specs.Json.{members_nesting}
use Rattle.arm_value.specs.View.{member}
use Rattle.arm_value.proofs.GatherLemmas.{members_nesting-put_each}
use Rattle.arm_value.proofs.value.Fields.from_members.Goals as goal

pub in_order-requires : goal.in_order-requires
in_order-requires c =
    subst (λ ms. members_nesting ms ≤ 119) (sym c.in_ok-sorted.ensures)
    (members_nesting-put_each [] (map member c.args.members.items) (omega arith) c.requires)
