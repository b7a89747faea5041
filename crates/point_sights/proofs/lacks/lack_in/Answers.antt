use Rattle.std.proofs.Common.{subst}
use Rattle.plan_sight.specs.Seen.{Shows}
use Rattle.plan_telling.proofs.TellLemmas.{found_stops}
use Rattle.point_sights.proofs.lacks.lack_in.Goals as goal

pub returns-in-Ok : goal.returns-in-Ok
returns-in-Ok g c =
    λ view t u h. found_stops view t c.in-Ok.found u (subst (λ r. Shows view t r u) c.in-Ok.is h)

pub returns-in-Err : goal.returns-in-Err
returns-in-Err g c = λ view t u h. c.stopping.ensures t u (subst (λ r. Shows view t r u) c.in-Err.is h)
