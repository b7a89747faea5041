use Rattle.std.proofs.Common.{arith, sym, ◌∙◌}
use Rattle.arm_ids.proofs.FrontLemmas.{equal_from_front, front_self}
use Rattle.arm_ids.proofs.segment.same_texts.Goals as goal

pub returns-then-len : goal.returns-then-len
returns-then-len c = (
  λ yes. equal_from_front c.args.one.now c.args.other.now (omega arith) (sym c.is_front.ensures ∙ yes),
  λ e. c.is_front.ensures ∙ front_self c.args.one.now c.args.other.now e,
)
