use Rattle.std.proofs.Common.{sym, ap, ◌∙◌, subst}
use Rattle.reading.specs.Knowledge.{waits}
use Rattle.arm_env.specs.Look.{named}
use Rattle.arm_env.specs.Answer.{Stops}
use Rattle.arm_eval.specs.Titles.{held_back}
use Rattle.arm_eval.proofs.titles.held_back.Goals as goal

pub returns-in-NoValue : goal.returns-in-NoValue
returns-in-NoValue c =
    λ t h. ap (held_back (named c.args.text.now)) (subst (λ s. Stops s t) c.in-NoValue.is h)

pub returns-in-Ok : goal.returns-in-Ok
returns-in-Ok c =
    λ t h. ap (held_back (named c.args.text.now)) (subst (λ s. Stops s t) c.in-Waits.is h)
    ∙ ap (λ x. waits (named x)) (sym c.in-Ok.ensures)
