use Rattle.std.proofs.Common.{sym, ap, ◌∙◌, subst}
use Rattle.reading.specs.Knowledge.{value, told}
use Rattle.arm_env.specs.Answer.{Gives}
use Rattle.missing_values.specs.Missing.{a_member}
use Rattle.missing_values.specs.Words.{path_found}
use Rattle.missing_values.proofs.PathLemmas.{below_told, below_stops}
use Rattle.missing_values.proofs.path.below_member.Goals as goal

pub returns-in_ok-around_member-in-Ok : goal.returns-in_ok-around_member-in-Ok
returns-in_ok-around_member-in-Ok c =
    λ p o h. below_told p (a_member c.args.name.now) o (path_found c.in-Ok.found)
    (subst (λ r. Gives path_found r (told p o)) c.in-Ok.is h)
    ∙ ap value (sym c.in_ok-around_member-in-Ok.ensures)

pub returns-in-Err : goal.returns-in-Err
returns-in-Err c =
    λ p o h. below_stops p c.in-Err.stop (a_member c.args.name.now) o
    (subst (λ r. Gives path_found r (told p o)) c.in-Err.is h)
