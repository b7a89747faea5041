use Rattle.std.proofs.Common.{subst, Option}
use Rattle.arm_value.specs.Json.{Json}
use Rattle.plan_sight.specs.Seen.{Stops}
use Rattle.point_rows.specs.Rows.{told_now}
use Rattle.scope_outputs.specs.Outputs.{reading_of}
use Rattle.scope_outputs.proofs.offering.lacking.Goals as goal

pub returns-in-NotThere : goal.returns-in-NotThere
returns-in-NotThere c =
    λ t l f x has line h.
    absurd (subst (λ e. Stops {A = Option Json} t e (told_now t l (reading_of t f x))) c.in-NotThere.is h)

pub returns-in-NoValue : goal.returns-in-NoValue
returns-in-NoValue c =
    λ t l f x has line h. record {
      name = x;
      has = has;
      is_line = line;
      is_nothing = subst (λ e. Stops {A = Option Json} t e (told_now t l (reading_of t f x))) c.in-NoValue.is h;
    }

pub returns-in-Line : goal.returns-in-Line
returns-in-Line c =
    λ t l f x has line h.
    let g = subst (λ e. Stops {A = Option Json} t e (told_now t l (reading_of t f x))) c.in-Line.is h in
    record { name = x; has = has; listed = g.0; is_awaited = g.1 }

pub returns-in-State : goal.returns-in-State
returns-in-State c =
    λ t l f x has line h. record {
      name = x;
      has = has;
      is_awaited = subst (λ e. Stops {A = Option Json} t e (told_now t l (reading_of t f x))) c.in-State.is h;
    }
