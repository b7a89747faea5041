use Rattle.std.proofs.Common.{sym, ◌∙◌, subst}
use Rattle.std.specs.Prelude.{IfOk}
use Rattle.file_lists.specs.Lists.{IsDivided}
use Rattle.file_lists.proofs.variable_list.with_variable.Goals as goal

pub returns-then-is_loop : goal.returns-then-is_loop
returns-then-is_loop c =
    subst (λ b. IfOk c.with_loop.result (IsDivided b c.args.variable c.args.plain c.args.loops))
    (sym c.if-is_loop.true ∙ c.is_loop.ensures) c.with_loop.ensures

pub returns-else-is_loop : goal.returns-else-is_loop
returns-else-is_loop c =
    subst (λ b. IfOk c.with_plain.result (IsDivided b c.args.variable c.args.plain c.args.loops))
    (sym c.if-is_loop.false ∙ c.is_loop.ensures) c.with_plain.ensures
