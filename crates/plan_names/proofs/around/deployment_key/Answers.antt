use Rattle.std.proofs.Common.{ap, ◌∙◌, codes, refl, chars}
use Rattle.std.proofs.lemmas.Result.{IfOk-weaker}
use Rattle.foundation.proofs.AsciiWords.{word}
use Rattle.deploy_cells.specs.Puts.{key_at}
use Rattle.plan_names.proofs.around.deployment_key.Goals as goal

pub returns : goal.returns
returns c =
    IfOk-weaker c.key_formed.result _ _
    (λ k e. e ∙ ap (λ x. key_at c.args.place.now x (chars c.args.name.now))
    (word (codes "Microsoft.Resources/deployments") refl)) c.key_formed.ensures
