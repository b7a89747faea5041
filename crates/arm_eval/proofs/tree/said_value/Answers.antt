use Rattle.reading.specs.Knowledge as knowledge
use Rattle.std.proofs.Common.{option_map, sym, ap, ◌∙◌}
use Rattle.arm_value.specs.Json.{text}
use Rattle.arm_expr.specs.View.{tree_of}
use Rattle.arm_expr.specs.Brackets.{meaning as text_meaning}
use Rattle.arm_env.specs.Sight.{here}
use Rattle.arm_eval.proofs.TreeLemmas.{said_plain, said_some, said_none}
use Rattle.arm_eval.proofs.tree.said_value.Goals as goal

pub returns-in_ok-of-in-Plain : goal.returns-in_ok-of-in-Plain
returns-in_ok-of-in-Plain g c =
    said_plain (g.K.Entries.known c.args.entries.now) (here c.args.around.now) c.args.text.now _
    (ap text_meaning (sym c.as_str.ensures.characters) ∙ sym c.in-Plain.ensures)
    ∙ ap (λ s. knowledge.value (text s)) (sym c.in_ok-of-in-Plain.ensures)

pub returns-in-Some : goal.returns-in-Some
returns-in-Some g c =
    rw (said_some (g.K.Entries.known c.args.entries.now) (here c.args.around.now) c.args.text.now (tree_of c.in-Some.e)
    (ap text_meaning (sym c.as_str.ensures.characters) ∙ sym c.in-Expression.ensures)
    (ap (option_map tree_of) (sym c.in-Some.is) ∙ c.in_ok-e-in-Expression.ensures)) c.taken_value.ensures

pub returns-in-None : goal.returns-in-None
returns-in-None g c =
    said_none (g.K.Entries.known c.args.entries.now) (here c.args.around.now) c.args.text.now
    (ap text_meaning (sym c.as_str.ensures.characters) ∙ sym c.in-Expression.ensures)
    (ap (option_map tree_of) (sym c.in-None.is) ∙ c.in_ok-e-in-Expression.ensures)
