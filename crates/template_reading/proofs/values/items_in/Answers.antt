use Rattle.std.proofs.Common.{option_map, sym, ap, ◌∙◌}
use Rattle.arm_value.specs.View.{json}
use Rattle.template_reading.proofs.CopyLemmas.{items_at}
use Rattle.template_reading.proofs.values.items_in.Goals as goal

pub returns-in-Array : goal.returns-in-Array
returns-in-Array c =
    c.as_slice.ensures.items
    ∙ sym (items_at _ c.in-Some.value.now c.in-Array.items (ap (option_map (λ v. json v.now)) c.in-Some.is)
    c.in-Array.is)
