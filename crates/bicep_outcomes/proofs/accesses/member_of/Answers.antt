use Rattle.std.proofs.Common.{ap, ◌∙◌}
use Rattle.std.proofs.lemmas.Result.{IfOk-weaker}
use Rattle.arm_env.specs.Part.{part_of}
use Rattle.function_lists.specs.Members as members
use Rattle.bicep_outcomes.proofs.accesses.member_of.Goals as goal

pub returns-in-Plain : goal.returns-in-Plain
returns-in-Plain c =
    rw c.in-Plain.is
    (c.made.ensures _ (IfOk-weaker c.plain_part.result _ _
    (λ v h. h ∙ ap (λ q. part_of q.0 q.1) c.in_ok-parts.ensures.ok) c.plain_part.ensures))

pub returns-in-Safe : goal.returns-in-Safe
returns-in-Safe c =
    rw c.in-Safe.is
    (c.made-in-Safe.ensures _ (IfOk-weaker c.safe_part.result _ _
    (λ v h. h ∙ ap (λ q. members.part_of q.0 q.1) c.in_ok-parts.ensures.ok) c.safe_part.ensures))
