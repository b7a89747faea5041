-- What a scripted dealer has.
use Rattle.driver_fakes.specs.Dealing.{Hand}
use Rattle.driver_fakes.specs.declared.scripted_dealer.ScriptedDealer.{ScriptedDealer}

-- what it deals by
abbrev pub hand_of : ScriptedDealer → Hand
hand_of d = record { jobs = d.jobs.items; needs = d.needs.items; steps = d.steps.items }
