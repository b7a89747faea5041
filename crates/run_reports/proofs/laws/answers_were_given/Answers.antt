use Rattle.std.proofs.Common.{List, subst, sym}
use Rattle.deploy_histories.specs.Events.{Event, at_opening}
use Rattle.deploy_histories.specs.Outcome.{AreGiven}
use Rattle.run_reports.proofs.laws.answers_were_given.Goals as goal

pub returns : goal.returns
returns g c = λ x h old new legal none ran. c.answers_are_given.ensures x h old new legal ran
    (subst (λ (es : List Event). AreGiven g.P.Provider.may x at_opening es) (sym none) tt)
