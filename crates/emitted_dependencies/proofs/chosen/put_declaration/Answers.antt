use Rattle.std.proofs.Common.{sym, ap, ◌∙◌}
use Rattle.std.specs.Prelude.{option_map}
use Rattle.bicep_declared.specs.View.{declared_tree}
use Rattle.filled_tables.specs.Seen.{file_in}
use Rattle.emitted_dependencies.proofs.LoopLemmas.{is_none, is_other, is_put_at}
use Rattle.emitted_dependencies.proofs.chosen.put_declaration.Goals as goal

pub returns-then-is_put : goal.returns-then-is_put
returns-then-is_put c =
    let f = file_in c.args.table.now in
    is_put_at f c.args.number (declared_tree c.in-Some.declared.now)
    (c.declared_at.ensures ∙ ap (option_map (λ d. declared_tree d.now)) c.in-Some.is)
    (sym (c.is_put.ensures f c.args.number) ∙ c.if-is_put.true)

pub returns-else-is_put : goal.returns-else-is_put
returns-else-is_put c =
    let f = file_in c.args.table.now in
    is_other f c.args.number (declared_tree c.in-Some.declared.now)
    (c.declared_at.ensures ∙ ap (option_map (λ d. declared_tree d.now)) c.in-Some.is)
    (sym (c.is_put.ensures f c.args.number) ∙ c.if-is_put.false)

pub returns-in-None : goal.returns-in-None
returns-in-None c =
    is_none (file_in c.args.table.now) c.args.number
    (c.declared_at.ensures ∙ ap (option_map (λ d. declared_tree d.now)) c.in-None.is)
