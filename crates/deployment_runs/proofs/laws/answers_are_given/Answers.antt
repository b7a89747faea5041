use Rattle.std.proofs.Common.{length}
use Rattle.deployment_runs.proofs.GivenLemmas.{answers_given, one_of}
use Rattle.deployment_runs.proofs.laws.answers_are_given.Goals as goal

pub returns : goal.returns
returns g c = λ x h old new legal ran before. answers_given x g.P.Provider.may (length old) h ran.course legal
    ran.steps_are ran.one_at_a_time ran.others (λ k low. (ran.calls k low (one_of old k low) (one_of old k low)).fits)
    before
