use Rattle.std.proofs.Common.{◌∙◌, ap}
use Rattle.std.specs.Prelude.{not}
use Rattle.arm_value.specs.View.{json}
use Rattle.function_lists.proofs.IndexLemmas.{is_indexed, index_more}
use Rattle.function_lists.proofs.index.add.Goals as goal

pub returns-clause-is_new : goal.returns-clause-is_new
returns-clause-is_new c = λ js h.
    c.in_ok-is_new.ensures.added
    ∙ ap not (is_indexed c.args.texts.now c.in_ok-text.text js (json c.args.value.now) h c.in_ok-text.ensures.text
    c.in_ok-text.ensures.reads_back)

pub returns-clause-added : goal.returns-clause-added
returns-clause-added c = λ js h.
    index_more c.args.texts.now c.insert.new.self c.in_ok-text.text js (json c.args.value.now) h
    c.in_ok-text.ensures.text c.in_ok-text.ensures.reads_back c.in_ok-is_new.ensures.updates
