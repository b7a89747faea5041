-- The steps of a dealer that keeps a mark of each.
use Rattle.std.specs.Prelude.{ℕ, List, [], ◌∷◌}
use Rattle.dealer_trait.specs.Steps.{begin, answered, given_back}
use Rattle.dealer_trait.specs.declared.dealer_step.DealerStep.{DealerStep}
use Rattle.crew_times.specs.declared.mark.Mark.{Mark}
use Rattle.crew_times.specs.declared.mark.Mark.TheVariants.{Begun, Answered, GivenBack}

abbrev pub step_of : Mark → DealerStep
step_of (Begun job) = begin job.value
step_of (Answered task answer) = answered task answer
step_of (GivenBack task) = given_back task

-- the steps of these marks, in order
unfoldable pub steps_of : List Mark → List DealerStep
steps_of [] = []
steps_of (mark ∷ rest) = step_of mark ∷ steps_of rest
