use Rattle.std.proofs.Common.{refl, ap, ◌∙◌, codes}
use Rattle.arm_value.specs.Look.{is_same_folded}
use Rattle.foundation.proofs.AsciiWords.{word}
use Rattle.bicep_type_texts.specs.Texts.{is_deployments}
use Rattle.bicep_type_texts.proofs.texts.is_deployments.Goals as goal

pub returns : goal.returns
unfolding is_deployments
returns c =
    c.equals_ignore_case.ensures
    ∙ ap (λ w. is_same_folded w c.in_ok-kind.kind) (word (codes "Microsoft.Resources/deployments") refl)
    ∙ ap (is_same_folded (codes "Microsoft.Resources/deployments")) c.in_ok-kind.ensures
