use Rattle.std.proofs.Common.{arith, ◌++◌, ◌∷◌, [], map}
use Rattle.arm_value.specs.Json.{IsInOrder, Member}
use Rattle.arm_value.specs.View.{json, member, held}
use Rattle.arm_value.proofs.JsonLemmas.{members_nesting-push, PairsAreOrderly-push}
use Rattle.arm_value.proofs.value.Fields.push_last.Goals as goal
use Rattle.foundation.proofs.Lists.{map-push}

pub invariant_of-self-2 : goal.invariant_of-self-2
invariant_of-self-2 c =
    let old = map member (held c.self.inside.fields) in
    let m : Member = (c.args.name, json c.args.value) in
    let deep = members_nesting-push old m in
    let last : IsInOrder (old ++ m ∷ []) = rw c.self.view_is c.requires.last in
    rw (
      c.in_ok-add.ensures,
      map-push member (held c.self.inside.fields) (record { name = c.args.name; value = c.args.value }),
    ) (
      omega (arith, deep),
      (
        last,
        PairsAreOrderly-push old m c.self.invariant.1.1 c.nesting-depth.ensures.rules.0,
        omega (arith, deep),
      ),
    )
