use Rattle.std.proofs.Common.{codes, refl, ◌∙◌}
use Rattle.foundation.proofs.AsciiWords.{word}
use Rattle.arm_ids.specs.Members.{deployment_type}
use Rattle.emitted_modules.proofs.modules.typed.Goals as goal

pub returns-in-Ok : goal.returns-in-Ok
returns-in-Ok c =
    (c.in_ok-kind.ensures ∙ word deployment_type refl, c.in-Ok.ensures ∙ word (codes "2022-09-01") refl)
