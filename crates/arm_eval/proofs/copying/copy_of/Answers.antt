use Rattle.std.proofs.Common.{sym, ap, ◌∙◌}
use Rattle.arm_value.specs.Json.{pairs}
use Rattle.arm_value.specs.View.{json}
use Rattle.arm_eval.specs.Trees.{copy_in, copy_by, parts}
use Rattle.arm_eval.proofs.TreeLemmas.{three_parts, other_parts}
use Rattle.arm_eval.proofs.copying.copy_of.Goals as goal

pub returns-then-len-eq3-clause-copy : goal.returns-then-len-eq3-clause-copy
returns-then-len-eq3-clause-copy c =
    c.loop_of.ensures.copy ∙ ap (λ ms. copy_by (parts (pairs ms))) c.as_slice.ensures.members
    ∙ sym (ap (λ v. copy_in (json v)) c.in-Object.is
    ∙ three_parts c.in-Object.fields (sym c.len.ensures ∙ c.if-len-eq3.true))

pub returns-else-len-eq3-clause-copy : goal.returns-else-len-eq3-clause-copy
returns-else-len-eq3-clause-copy c =
    sym (ap (λ v. copy_in (json v)) c.in-Object.is
    ∙ other_parts c.in-Object.fields (λ h. c.if-len-eq3.false (c.len.ensures ∙ h)))
