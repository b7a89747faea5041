use Rattle.std.proofs.Common.{◌≡◌, ◌-◌, arith, sym, ◌∙◌, true≢false, eq-eqb}
use Rattle.std.proofs.lemmas.Bool.{eqb-true}
use Rattle.arm_ids.proofs.FrontLemmas.{names_longer, parent_from, parent_begins}
use Rattle.arm_ids.proofs.key.Key.is_parent.Goals as goal

pub overflow_sub-result : goal.overflow_sub-result
overflow_sub-result c =
    omega (
      arith,
      c.len.ensures,
      c.len-then-begins.ensures,
      names_longer c.self.inside.parts c.child.inside.parts (sym c.begins.ensures ∙ c.if-begins.true),
    )

pub returns-then-begins : goal.returns-then-begins
returns-then-begins c =
    let key = c.self.inside.parts in
    let child = c.child.inside.parts in
    rw (← c.self.view_is, ← c.child.view_is) (
      λ yes. let one : c.len.result - c.len-then-begins.result ≡ 1 = eqb-true _ _ yes in
          parent_from key child c.self.invariant.0 c.child.invariant.0 (sym c.begins.ensures ∙ c.if-begins.true)
          (omega (arith, one, c.len.ensures, c.len-then-begins.ensures)),
      λ p. let h = parent_begins key child p in
          eq-eqb _ _ (omega (arith, h.1, c.len.ensures, c.len-then-begins.ensures)),
    )

pub returns-else-begins : goal.returns-else-begins
returns-else-begins c =
    rw (← c.self.view_is, ← c.child.view_is) (
      λ yes. absurd (true≢false (sym yes ∙ c.if-begins.false)),
      λ p. c.begins.ensures
          ∙ (parent_begins c.self.inside.parts c.child.inside.parts p).0,
    )
