use Rattle.std.proofs.Common.{ap, ◌∙◌}
use Rattle.arm_value.specs.Look.{look}
use Rattle.arm_value.specs.View.{json}
use Rattle.foundation.proofs.AsciiWords.{word}
use Rattle.http_requests.proofs.body.member.Goals as goal

pub returns : goal.returns
returns c =
    c.look.ensures ∙ ap (λ n. look n (json c.args.value.now)) (word c.args.name.now c.requires)
