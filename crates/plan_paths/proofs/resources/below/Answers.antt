use Rattle.std.proofs.Common.{◌++◌, ◌∙◌, ap}
use Rattle.foundation.proofs.AsciiWords.{word}
use Rattle.foundation.proofs.Options.{if_ok}
use Rattle.arm_value.specs.Pointer.{step, token}
use Rattle.plan_paths.proofs.resources.below.Goals as goal

pub returns : goal.returns
returns c =
    if_ok _ _ c.member.result c.member.ensures (λ p e.
    e ∙ ap (λ w. c.args.path.now ++ step (token w)) (word c.args.word.now c.requires))
