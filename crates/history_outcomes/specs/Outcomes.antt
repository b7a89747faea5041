-- The outcome of a history that has succeeded.
use Rattle.std.specs.Prelude.{List}
use Rattle.deploy_cells.specs.Cells.{World}
use Rattle.deploy_cells.specs.Puts.{AreAllowed}
use Rattle.plan_cells.specs.Meaning.{bodies}
use Rattle.plan_cells.specs.Desired.{kinds, Satisfies}
use Rattle.deploy_histories.specs.Planned.{Planned}
use Rattle.deploy_histories.specs.Events.{Event}
use Rattle.deploy_histories.specs.Answers.{answers_of}
use Rattle.deploy_histories.specs.Outcome.{MayAnswer, stores_by, BelongsTo, IsHeldAfter, held_after}

-- the world is a desired state of the template, in which providers may have answered so; it belongs to the answers of
-- the history; and what is held after these answers is what is held after a deployment to it
pub record IsOutcome (may : MayAnswer) (x : Planned) (h : List Event) (w : World) : Type 0 where
  pub satisfies : Satisfies x.deployment x.held w
  pub is_allowed : AreAllowed (stores_by may) x.deployment.place (kinds x.deployment) (bodies x.deployment) w
  pub belongs : BelongsTo x w (answers_of h)
  pub is_held : IsHeldAfter x.deployment x.mode x.held w (held_after x (answers_of h) x.held)
