use Rattle.std.proofs.Common.{List, ◌≤◌, sym, subst, map, length, ◌∙◌}
use Rattle.std.specs.Prelude.{Decides}
use Rattle.reading.specs.World.{Each}
use Rattle.history_plans.specs.Task.{Task}
use Rattle.plan_numbers.specs.Numbers.{enter_tag, leave_tag, IsOfTable, AreOfScopes}
use Rattle.plan_numbers.proofs.NumberLemmas.{whole}
use Rattle.plan_numbers.proofs.numbering.is_whole.Goals as goal

pub returns : goal.returns
returns c = λ us ks l e.
    let t = c.args.plan.now.start.register.table in
    let same = c.as_slice-tasks.ensures.value ∙ sym e in
    subst (λ b. Decides b (AreOfScopes t us ks)) (sym c.are_true.ensures)
    (whole t us ks c.args.numbers.now c.len-count.result c.are_few-few.result c.in_ok-entered.entered
    c.in_ok-left.left c.are_of_table-of_table.result l (c.len-count.ensures ∙ t.frames.ok.0)
    (subst (λ (ts : List Task). Decides c.are_few-few.result (length ts ≤ 4294967295)) same c.are_few-few.ensures)
    (c.in_ok-entered.ensures (map enter_tag us) l.enters) (c.in_ok-left.ensures (map leave_tag us) l.leaves)
    (subst (λ (ts : List Task). Decides c.are_of_table-of_table.result (Each (IsOfTable t) ts)) same
    c.are_of_table-of_table.ensures))
