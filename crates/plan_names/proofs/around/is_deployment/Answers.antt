use Rattle.std.proofs.Common.{ap, ◌∙◌, codes, refl, chars}
use Rattle.std.proofs.lemmas.Result.{IfOk-weaker}
use Rattle.foundation.proofs.AsciiWords.{word}
use Rattle.plan_names.specs.Named.{is_spelled}
use Rattle.plan_names.proofs.around.is_deployment.Goals as goal

pub returns : goal.returns
returns c =
    IfOk-weaker c.is_spelled.result _ _
    (λ b e. e ∙ ap (λ k. is_spelled c.args.text.now k (chars c.args.name.now))
    (word (codes "Microsoft.Resources/deployments") refl)) c.is_spelled.ensures
