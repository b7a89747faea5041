use Rattle.std.proofs.Common.{arith, map}
use Rattle.arm_value.specs.View.{json, held}
use Rattle.arm_value.proofs.JsonLemmas.{items_nesting-push, RowIsOrderly-push}
use Rattle.arm_value.proofs.value.Items.push.Goals as goal
use Rattle.foundation.proofs.Lists.{map-push}

pub invariant_of-self-2 : goal.invariant_of-self-2
invariant_of-self-2 c =
    let old = map json (held c.self.inside.items) in
    let j = json c.args.value in
    let deep = items_nesting-push old j in
    rw (c.in_ok-add.ensures, map-push json (held c.self.inside.items) c.args.value) (
      omega (arith, deep),
      (
        RowIsOrderly-push old j c.self.invariant.1.0 c.nesting-depth.ensures.rules.0,
        omega (arith, deep),
      ),
    )
