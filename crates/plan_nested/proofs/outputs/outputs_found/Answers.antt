use Rattle.std.proofs.Common.{sym, ap, subst, ◌∙◌, map}
use Rattle.arm_env.specs.Look.{a_list}
use Rattle.arm_env.specs.Sight.{declared_of}
use Rattle.plan_sight.specs.Sites.{outputs_at}
use Rattle.plan_table.specs.Whole.{whole_of}
use Rattle.plan_sight.specs.Ready.{told_in}
use Rattle.plan_sight.specs.Seen.{Shows}
use Rattle.plan_sight.proofs.LookLemmas.{frames_there}
use Rattle.plan_nested.specs.Sighted.{IsThere, found_of}
use Rattle.plan_nested.proofs.OutputLemmas.{nothing_told, outputs_shown}
use Rattle.plan_nested.proofs.outputs.outputs_found.Goals as goal

pub outputs_of-requires-clause-there : goal.outputs_of-requires-clause-there
outputs_of-requires-clause-there c =
    frames_there c.args.table.now c.in-Scope.inside
    (subst (IsThere c.args.table.now) c.in-Scope.is c.requires.there).there

pub returns-in-Scope : goal.returns-in-Scope
returns-in-Scope c =
    let t = c.args.table.now in
    subst (λ s. Shows (λ v. a_list (map declared_of v.items)) t c.outputs_of.result
    (told_in t (outputs_at (whole_of t).template (found_of t s)))) (sym c.in-Scope.is)
    (outputs_shown t c.in-Scope.inside c.requires.ready (subst (IsThere t) c.in-Scope.is c.requires.there)
    (λ v. map declared_of v.items) c.outputs_of.result c.outputs_of.ensures)

pub returns-in-LeftAway : goal.returns-in-LeftAway
returns-in-LeftAway c =
    let t = c.args.table.now in
    ap (λ s. told_in t (outputs_at (whole_of t).template (found_of t s))) c.in-LeftAway.is ∙ nothing_told t

pub returns-in-Nowhere : goal.returns-in-Nowhere
returns-in-Nowhere c =
    let t = c.args.table.now in
    ap (λ s. told_in t (outputs_at (whole_of t).template (found_of t s))) c.in-Nowhere.is ∙ nothing_told t
