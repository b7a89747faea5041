use Rattle.deployment_theorem.proofs.SourceLemmas.{plans_of}
use Rattle.deployment_theorem.proofs.laws.plans_are_of_sources.Goals as goal

pub returns : goal.returns
returns c =
    plans_of c.read_once.ensures c.places_are_plain.ensures c.built_programs_are_planned.ensures
    c.desired_states_are_of_sources.ensures
