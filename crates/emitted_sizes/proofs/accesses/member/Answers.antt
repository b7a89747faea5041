use Rattle.std.proofs.Common.{codes, length, refl, ap, sym, ◌∙◌}
use Rattle.arm_expr.specs.Tree.{text}
use Rattle.emitted_sizes.proofs.accesses.member.Goals as goal

pub returns-in-Plain : goal.returns-in-Plain
returns-in-Plain c = λ a i.
    rw c.in-Plain.is
    (c.plain_member.ensures a c.args.name.now
    (sym (c.characters.ensures ∙ ap length c.as_str.ensures.characters)) i)

pub returns-in-Safe : goal.returns-in-Safe
returns-in-Safe c = λ a i.
    rw c.in-Safe.is (c.call_two.ensures (codes "tryGet") a (text c.args.name.now) refl i c.text.ensures)
