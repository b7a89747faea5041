use Rattle.run_reports.proofs.SideLemmas.{sides_ran}
use Rattle.run_reports.proofs.laws.seats_have_sides.Goals as goal

pub returns : goal.returns
returns g c = λ ss old new ran. sides_ran g.P.Provider.may g.P.Provider.tells g.P.Provider.calls g.P.Provider.faults ss
    old new ran
