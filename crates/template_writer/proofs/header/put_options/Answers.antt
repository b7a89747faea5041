use Rattle.std.proofs.Common.{◌≡◌, List, IfOk, codes, Some, sym, ap, ◌∙◌, subst}
use Rattle.arm_value.specs.Json.{Member, object, pairs}
use Rattle.template_written.specs.Slots.{put_slot, word}
use Rattle.template_written.specs.Written.{options_of}
use Rattle.template_writer.proofs.header.put_options.Goals as goal

pub returns-in-Ok : goal.returns-in-Ok
returns-in-Ok c =
    subst (λ (x : List Member). IfOk c.put_value.result (λ ms. ms ≡ x))
    (ap (λ o. put_slot (codes "expressionEvaluationOptions") o c.args.fields)
    (ap (λ ms. Some (object (pairs ms))) c.in-Ok.ensures
    ∙ ap (λ ms. Some (object (pairs (put_slot (codes "scope") (Some (word (codes "inner"))) ms)))) c.new.ensures
    ∙ ap options_of (sym c.in-Inner.is)))
    c.put_value.ensures
