use Rattle.std.proofs.Common.{Some, sym, ap, ◌∙◌}
use Rattle.arm_value.proofs.SameLemmas.{items-row}
use Rattle.arm_value.specs.View.{json}
use Rattle.arm_eval.specs.Words.{trees_in}
use Rattle.arm_eval.proofs.copying.trees_in.Goals as goal

pub returns-in-Array-clause-trees : goal.returns-in-Array-clause-trees
returns-in-Array-clause-trees c = ap Some (c.as_slice.ensures.items ∙ sym (items-row c.in-Array.items))
    ∙ sym (ap (λ v. trees_in (json v)) c.in-Array.is)
