use Rattle.std.proofs.Common.{option_map, sym, ap, ◌∙◌}
use Rattle.arm_value.specs.View.{json}
use Rattle.template_reading.proofs.CopyLemmas.{members_at}
use Rattle.template_reading.proofs.values.members_in.Goals as goal

pub returns-in-Object : goal.returns-in-Object
returns-in-Object c =
    c.as_slice.ensures.members
    ∙ sym (members_at _ c.in-Some.value.now c.in-Object.fields (ap (option_map (λ v. json v.now)) c.in-Some.is)
    c.in-Object.is)
