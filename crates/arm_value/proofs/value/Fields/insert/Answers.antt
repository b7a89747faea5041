use Rattle.std.proofs.Common.{arith, map, length, refl, ◌≤◌}
use Rattle.std.specs.List.{insert}
use Rattle.arm_value.specs.Json.{IsInOrder}
use Rattle.arm_value.specs.View.{json, member, held}
use Rattle.arm_value.proofs.SetLemmas.{inserted}
use Rattle.arm_value.proofs.value.Fields.insert.Goals as goal
use Rattle.foundation.proofs.Lists.{map-insert}

pub invariant_of-self-2 : goal.invariant_of-self-2
invariant_of-self-2 c =
    let old = held c.self.inside.fields in
    let within : c.args.place ≤ length (map member old) = rw c.self.view_is c.requires.within in
    let ordered : IsInOrder (insert (map member old) c.args.place (c.in_ok-name.name, json c.args.value)) =
    rw (c.self.view_is, c.in_ok-name.ensures) c.requires.ordered in
    let whole = inserted old (held c.insert_at.new.list) (map member old) c.args.place
    (record { name = c.in_ok-name.name; value = c.args.value }) c.self.inside.depth c.in_ok-insert_at.ensures refl
    within c.nesting-depth.ensures.rules.0 c.requires.nests c.self.invariant.1 ordered c.self.invariant.0 in
    (omega arith, whole.1)

pub returns : goal.returns
returns c =
    rw (c.in_ok-insert_at.ensures, map-insert) (rw (c.in_ok-name.ensures, ← c.self.view_is) refl)
