use Rattle.std.proofs.Common.{sym, ap, ◌∙◌}
use Rattle.std.specs.Prelude.{is_some}
use Rattle.arm_value.specs.View.{json}
use Rattle.plan_cells.specs.Titles.{key_at}
use Rattle.plan_sight.proofs.RuleLemmas.{kind_here}
use Rattle.plan_sight.proofs.rules.is_name.Goals as goal

pub returns : goal.returns
returns c =
    λ x h.
    c.is_some.ensures ∙ ap is_some c.in_ok-key.ensures
    ∙ ap (λ k. is_some (key_at c.args.table.now.place.now k (json c.args.value.now)))
    (sym (kind_here c.args.table.now c.args.frame c.args.resource c.index.result.now c.index-2.result.now x
    c.requires.there c.index.ensures c.requires.resource c.index-2.ensures h))
