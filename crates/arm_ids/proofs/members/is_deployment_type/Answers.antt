use Rattle.std.proofs.Common.{◌∙◌, ap, codes, refl}
use Rattle.arm_value.specs.Look.{is_same_folded}
use Rattle.arm_ids.specs.Members.{is_deployment_type}
use Rattle.foundation.proofs.AsciiWords.{word}
use Rattle.arm_ids.proofs.members.is_deployment_type.Goals as goal

pub returns : goal.returns
unfolding is_deployment_type
returns c =
    c.equals_ignore_case.ensures
    ∙ ap (λ w. is_same_folded w c.args.kind.now) (word (codes "Microsoft.Resources/deployments") refl)
