use Rattle.std.proofs.Common.{ap, ◌∙◌}
use Rattle.arm_env.specs.Names.{strict_named}
use Rattle.std.specs.Str.{chars}
use Rattle.bicep_outcomes.specs.Outcomes.{placed_of}
use Rattle.bicep_outcomes.proofs.CallLemmas.{placed_is}
use Rattle.bicep_outcomes.proofs.calls.placed_named.Goals as goal

pub returns : goal.returns
returns c =
    c.placed_of.ensures ∙ ap placed_of c.strict_named.ensures
    ∙ ap (λ n. placed_of (strict_named n)) c.in_ok-name.ensures
    ∙ placed_is (chars c.args.name.now)
