use Rattle.std.specs.Str.{chars}
use Rattle.bicep_surroundings.proofs.SeenLemmas.{state_found, state_stops}
use Rattle.bicep_surroundings.proofs.names.state_member.Goals as goal

pub returns-in-Ok : goal.returns-in-Ok
returns-in-Ok g c =
    let s = g.K.Surroundings.sight c.args.around.now in
    rw c.in-Ok.is
    (λ r h. state_found s _ (chars c.args.name.now) r c.in-Ok.id c.state.result c.looked-member.result h c.state.ensures
    c.looked-member.ensures)

pub returns-in-Err : goal.returns-in-Err
returns-in-Err g c =
    let s = g.K.Surroundings.sight c.args.around.now in
    rw c.in-Err.is (λ r h. state_stops s (chars c.args.name.now) r c.in-Err.stop h)
