use Rattle.std.proofs.Common.{◌≡◌, ◌∙◌, sym, ap, arith, map, max, subst, length, ◌<◌, ◌≤◌}
use Rattle.arm_value.specs.Json.{members_nesting, nesting, AreMembers}
use Rattle.arm_value.specs.View.{json, member, held}
use Rattle.arm_value.specs.Place.{replaced, others_nesting}
use Rattle.arm_value.proofs.SetLemmas.{members_nesting-replaced, AreMembers-replaced}
use Rattle.arm_value.proofs.value.Fields.replace.Goals as goal

pub invariant_of-self : goal.invariant_of-self
invariant_of-self c =
    let ms = map member (held c.self.inside.fields) in
    let j = json c.args.value in
    let put = c.exchange-before.ensures.exchanged in
    let others = others_nesting ms c.args.place in
    let here : c.args.place < length ms = rw c.self.view_is c.requires.within in
    let nests : members_nesting (replaced ms c.args.place j) ≡ max others (nesting j) =
    members_nesting-replaced ms c.args.place j here in
    let after : members_nesting (map member (held c.exchange-before.new.fields)) ≡ max others c.nesting-depth.result =
    ap members_nesting put ∙ nests ∙ ap (max others) (sym c.nesting-depth.ensures.value) in
    let shallow : members_nesting (replaced ms c.args.place j) ≤ 119 =
    omega (arith, nests, c.exchange-before.ensures.before, c.self.invariant.1.2, c.requires.nests) in
    let deep = c.depth_after-self-inside.ensures others (c.self.invariant.0 ∙ c.exchange-before.ensures.before)
    (ap (λ fs. members_nesting (map member fs)) c.elements.ensures ∙ after) in (
      deep ∙ ap (λ fs. members_nesting (map member fs)) c.elements.ensures,
      subst AreMembers (sym put)
          (AreMembers-replaced ms c.args.place j c.self.invariant.1 c.nesting-depth.ensures.rules.0 shallow),
    )
