use Rattle.std.proofs.Common.{Option, subst}
use Rattle.arm_value.specs.Json.{Json}
use Rattle.plan_sight.specs.Seen.{Stops}
use Rattle.scope_faults.proofs.outputs.look_by.Goals as goal

pub returns-in-NotThere : goal.returns-in-NotThere
returns-in-NotThere c = λ t u h. absurd (subst (λ e. Stops {A = Option Json} t e u) c.in-NotThere.is h)

pub returns-in-NoValue : goal.returns-in-NoValue
returns-in-NoValue c = λ t u h. subst (λ e. Stops {A = Option Json} t e u) c.in-NoValue.is h

pub returns-in-Line : goal.returns-in-Line
returns-in-Line c = λ t u h. subst (λ e. Stops {A = Option Json} t e u) c.in-Line.is h

pub returns-in-State : goal.returns-in-State
returns-in-State c = λ t u h. subst (λ e. Stops {A = Option Json} t e u) c.in-State.is h
