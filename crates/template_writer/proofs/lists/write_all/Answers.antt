use Rattle.std.proofs.Common.{◌≤◌, map, sym, ap, subst, arith}
use Rattle.arm_value.specs.Json.{nesting, members_nesting, IsInOrder}
use Rattle.template_writer.proofs.ListLemmas.{member_in, part_last}
use Rattle.template_writer.proofs.lists.write_all.Goals as goal

pub write-requires : goal.write-requires
write-requires g c = record {
  nests = member_in g.T.Written.member_of c.as_slice-part-items.result.now c.loop-part.part-index c.part-item.result 119
      c.loop-part-test.true c.part-item.is
      (subst (λ xs. members_nesting (map g.T.Written.member_of xs) ≤ 119) (sym c.as_slice-part-items.ensures)
      c.requires.nests);
}

pub with_member-requires-clause-nests : goal.with_member-requires-clause-nests
with_member-requires-clause-nests g c =
    let h = member_in g.T.Written.member_of c.as_slice-part-items.result.now c.loop-part.part-index c.part-item.result
    119 c.loop-part-test.true c.part-item.is
    (subst (λ xs. members_nesting (map g.T.Written.member_of xs) ≤ 119) (sym c.as_slice-part-items.ensures)
    c.requires.nests) in
    omega (arith, h, ap nesting c.in-Ok.ensures)

pub with_member-requires-clause-last : goal.with_member-requires-clause-last
with_member-requires-clause-last g c =
    part_last g.T.Written.member_of c.loop-part.members c.as_slice-part-items.result.now c.loop-part.part-index
    c.part-item.result _
    (subst (λ xs. IsInOrder (map g.T.Written.member_of xs)) (sym c.as_slice-part-items.ensures) c.requires.order)
    c.loop-part.invariant c.loop-part-test.true c.part-item.is (λ x. (c.name.ensures x, c.in-Ok.ensures x))
