-- The steps of a board as a dealer: what was begun, answered and given back since the service last started; and what had
-- happened before.
use Rattle.std.specs.Prelude.{ℕ, Bool, true, false, List, [], ◌∷◌, ◌++◌, Option, Some, None, option_map, if◌then◌else◌}
use Rattle.provider_trait.specs.Work.{Work}
use Rattle.dealer_trait.specs.declared.dealer_step.DealerStep.{DealerStep}
use Rattle.dealer_trait.specs.Steps as dealer
use Rattle.deploy_histories.specs.Planned.{Planned}
use Rattle.deploy_histories.specs.Events.{Event, enter, begin, answer, back, leave, crash, Status, is_begun}
use Rattle.deploy_histories.specs.Outcome.{target_of}
use Rattle.board_dealing.specs.Boards.{job_of}

-- the job of a Begin, where the task has a target
abbrev pub begins : Option Work → List DealerStep
begins None = []
begins (Some job) = dealer.begin job ∷ []

-- the job of a task with this status
abbrev pub open_job : Planned → ℕ → Status → Option Work
open_job x u (is_begun worker body) = option_map (λ aim. job_of aim u worker body) (target_of x u)
open_job x u _ = None

-- the steps after an event, where before it they were these. A crash closes what was begun
abbrev pub steps_after : Planned → List DealerStep → Event → List DealerStep
steps_after x ss (enter u) = ss
steps_after x ss (begin u worker body) = ss ++ begins (open_job x u (is_begun worker body))
steps_after x ss (answer u a) = ss ++ dealer.answered u a ∷ []
steps_after x ss (back u) = ss ++ dealer.given_back u ∷ []
steps_after x ss (leave u) = ss
steps_after x ss crash = []

abbrev pub steps_from : Planned → List DealerStep → List Event → List DealerStep
steps_from x ss [] = ss
steps_from x ss (e ∷ es) = steps_from x (steps_after x ss e) es

abbrev pub steps_of : Planned → List Event → List DealerStep
steps_of x h = steps_from x [] h

abbrev pub or_later : Event → Bool → Bool
or_later crash b = true
or_later e b = b

-- whether the service has stopped
abbrev pub has_crash : List Event → Bool
has_crash [] = false
has_crash (e ∷ es) = or_later e (has_crash es)

-- the events up to the last crash, and with it
abbrev pub until_crash : List Event → List Event
until_crash [] = []
until_crash (e ∷ es) = if has_crash (e ∷ es) then e ∷ until_crash es else []
