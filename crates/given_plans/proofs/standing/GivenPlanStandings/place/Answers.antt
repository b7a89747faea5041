use Rattle.std.proofs.Common.{ap, ◌∙◌}
use Rattle.std.specs.Prelude.{chars}
use Rattle.std.proofs.lemmas.Str.{chars-nil}
use Rattle.given_plans.proofs.StandLemmas.{place_so}
use Rattle.given_plans.proofs.standing.GivenPlanStandings.place.Goals as goal

pub returns : goal.returns
returns c =
    place_so c.args.self.now c.args.task c.requires.scope.0 c.requires.scope.1 c.from_string.result
    (c.from_string.ensures.characters ∙ ap chars c.new.ensures.bytes ∙ chars-nil)
