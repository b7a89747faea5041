use Rattle.std.proofs.Common.{sym, ap, subst, ◌∙◌}
use Rattle.arm_value.specs.Look.{fold}
use Rattle.arm_value.specs.View.{json}
use Rattle.arm_env.specs.Look.{a_value}
use Rattle.plan_sight.specs.Sites.{output_at}
use Rattle.plan_table.specs.Whole.{whole_of}
use Rattle.plan_sight.specs.Ready.{told_in}
use Rattle.plan_sight.specs.Seen.{Shows}
use Rattle.plan_nested.specs.Sighted.{IsThere, found_of}
use Rattle.plan_nested.proofs.OutputLemmas.{nothing_told}
use Rattle.plan_nested.proofs.look.output_found.Goals as goal

pub output_in-requires-clause-inside : goal.output_in-requires-clause-inside
output_in-requires-clause-inside c = subst (IsThere c.args.table.now) c.in-Scope.is c.requires.there

pub returns-in-Scope : goal.returns-in-Scope
returns-in-Scope c =
    let t = c.args.table.now in
    subst (λ s. Shows (λ v. a_value (json v.now)) t c.output_in.result
    (told_in t (output_at (whole_of t).template (fold c.args.name.now) (found_of t s)))) (sym c.in-Scope.is)
    c.output_in.ensures

pub returns-in-LeftAway : goal.returns-in-LeftAway
returns-in-LeftAway c =
    let t = c.args.table.now in
    ap (λ s. told_in t (output_at (whole_of t).template (fold c.args.name.now) (found_of t s))) c.in-LeftAway.is
    ∙ nothing_told t

pub returns-in-Nowhere : goal.returns-in-Nowhere
returns-in-Nowhere c =
    let t = c.args.table.now in
    ap (λ s. told_in t (output_at (whole_of t).template (fold c.args.name.now) (found_of t s))) c.in-Nowhere.is
    ∙ nothing_told t
