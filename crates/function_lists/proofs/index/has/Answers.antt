use Rattle.std.proofs.Common.{◌∙◌}
use Rattle.arm_value.specs.View.{json}
use Rattle.function_lists.proofs.IndexLemmas.{is_indexed}
use Rattle.function_lists.proofs.index.has.Goals as goal

pub returns : goal.returns
returns c = λ js h.
    c.contains.ensures
    ∙ is_indexed c.args.texts.now c.in_ok-text.text js (json c.args.value.now) h c.in_ok-text.ensures.text
    c.in_ok-text.ensures.reads_back
