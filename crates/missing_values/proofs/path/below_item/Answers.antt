use Rattle.std.proofs.Common.{sym, ap, ◌∙◌, subst}
use Rattle.reading.specs.Knowledge.{value, told}
use Rattle.arm_env.specs.Answer.{Gives}
use Rattle.missing_values.specs.Missing.{an_item}
use Rattle.missing_values.specs.Words.{path_found}
use Rattle.missing_values.proofs.PathLemmas.{below_told, below_stops}
use Rattle.missing_values.proofs.path.below_item.Goals as goal

pub returns-in_ok-around_item-in-Ok : goal.returns-in_ok-around_item-in-Ok
returns-in_ok-around_item-in-Ok c =
    λ p o h. below_told p (an_item c.args.place) o (path_found c.in-Ok.found)
    (subst (λ r. Gives path_found r (told p o)) c.in-Ok.is h)
    ∙ ap value (sym c.in_ok-around_item-in-Ok.ensures)

pub returns-in-Err : goal.returns-in-Err
returns-in-Err c =
    λ p o h. below_stops p c.in-Err.stop (an_item c.args.place) o
    (subst (λ r. Gives path_found r (told p o)) c.in-Err.is h)
