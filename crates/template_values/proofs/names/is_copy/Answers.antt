use Rattle.std.proofs.Common.{codes, ◌∙◌, refl}
use Rattle.template_values.proofs.names.is_copy.Goals as goal
use Rattle.arm_value.proofs.TextLemmas.{same_bytes}

pub returns : goal.returns
returns c = c.eq.ensures
    ∙ same_bytes c.as_str.result.now c.args.name.now (codes "copy") c.as_str.utf8 c.as_str.ensures.characters refl
