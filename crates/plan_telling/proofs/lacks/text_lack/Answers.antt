use Rattle.std.proofs.Common.{sym, ap, subst, Option, None}
use Rattle.arm_env.specs.Look.{Fact, a_key}
use Rattle.arm_value.specs.Json.{Json}
use Rattle.plan_sight.specs.Sites.{named_by_texts}
use Rattle.plan_table.specs.Found.{scope_at}
use Rattle.plan_table.specs.Whole.{whole_of}
use Rattle.plan_sight.specs.Ready.{told_in}
use Rattle.plan_sight.specs.Seen.{Stops}
use Rattle.plan_sight.specs.declared.lack.Lack.TheVariants as lack
use Rattle.plan_sights.specs.Resolved.{stop_of}
use Rattle.plan_sights.specs.Seats.{texts_of}
use Rattle.plan_telling.proofs.lacks.text_lack.Goals as goal
use Rattle.plan_sight.proofs.ToldLemmas.{told_pure}

pub returns-then-by_names : goal.returns-then-by_names
returns-then-by_names c =
    let t = c.args.register.now.table in
    subst (λ b. Stops {A = Json} t c.lack_in.result (stop_of (told_in t (named_by_texts (texts_of b)
    (whole_of t).template c.args.place.now (scope_at t c.args.frame).position c.args.text.now))))
    (sym c.if-by_names.true) (c.lack_in.ensures (λ k. a_key k) t _ c.look_named.ensures)

pub returns-else-by_names : goal.returns-else-by_names
returns-else-by_names c =
    let t = c.args.register.now.table in
    subst (λ b. Stops {A = Json} t lack.NoValue (stop_of (told_in t (named_by_texts (texts_of b)
    (whole_of t).template c.args.place.now (scope_at t c.args.frame).position c.args.text.now))))
    (sym c.if-by_names.false) (ap stop_of (told_pure {A = Option Fact} t None))
