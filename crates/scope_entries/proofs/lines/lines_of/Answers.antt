use Rattle.std.proofs.Common.{ap, sym, subst, ◌∙◌}
use Rattle.plan_table.specs.Opened.{Opened}
use Rattle.plan_sight.proofs.LookLemmas.{scope_is}
use Rattle.scope_entries.specs.Entries.{AreLinesOf}
use Rattle.scope_entries.proofs.LineLemmas.{all_lines, no_lines}
use Rattle.scope_entries.proofs.lines.lines_of.Goals.{then-index+in_ok-push_parameters+in_ok-push_variables, else-index}
use Rattle.scope_entries.proofs.lines.lines_of.Goals as goal

pub returns : goal.returns
returns c =
    let t = c.args.table.now in
    let own_is = ap (λ (o : Opened). o.is_own) (scope_is t c.args.frame c.index.result.now c.requires.there
    c.index.ensures) in
    elim c.if-index.branch [
      | then-index+in_ok-push_parameters+in_ok-push_variables w ↦
          subst (AreLinesOf t c.args.frame) (sym (ap (λ v. v.items) w.lines-is))
          (all_lines t c.args.frame c.requires.ready c.requires.there c.new-lines.result.items
          w.push_parameters.new.lines.items w.push_variables.new.lines.items c.new-lines.ensures.items
          (own_is ∙ w.if-index.true) w.in_ok-push_variables.ensures.own w.in_ok-push_parameters.ensures.cells
          w.in_ok-push_variables.ensures.cells)
      | else-index w ↦
          subst (AreLinesOf t c.args.frame) (sym (ap (λ v. v.items) w.lines-is))
          (no_lines t c.args.frame c.requires.ready c.requires.there c.new-lines.result.items c.new-lines.ensures.items
          (own_is ∙ w.if-index.false))
    ]
