use Rattle.std.proofs.Common.{ℕ}
use Rattle.deploy_cells.specs.Cells.{count, name, step}
use Rattle.plan_table.specs.Found.{scope_at, IsLineOf, state_at, Counts}
use Rattle.plan_tasks.proofs.TableLemmas.{line_there, no_line, instance_listed}
use Rattle.plan_tasks.proofs.KeyLemmas.{key_by_line}
use Rattle.plan_tasks.proofs.keys.key_at.Goals as goal

pub unreachable-requires : goal.unreachable-requires
unreachable-requires c =
    let t = c.args.table.now in
    instance_listed t c.args.frame c.args.resource c.args.copy c.requires.table c.requires.instance
    (no_line ((j : ℕ) → IsLineOf t c.args.frame (count (scope_at t c.args.frame).position c.args.resource) j
    → Counts c.args.copy (state_at t j) → ⊥) c.in_ok-line.field-0 c.in-None.is c.in_ok-line.ensures.missing)

pub returns : goal.returns
returns c =
    let t = c.args.table.now in
    key_by_line t c.args.frame c.args.resource c.args.copy c.in-Some.line c.in_ok-key-in-Some.key c.index.result.now
    c.index-in-Some.result.now c.index-in-Some-2.result.now c.requires.table c.requires.instance
    (line_there (IsLineOf t c.args.frame (name (scope_at t c.args.frame).position
    (step c.args.resource c.args.copy))) c.in_ok-line.field-0 c.in-Some.line c.in-Some.is c.in_ok-line.ensures.found)
    c.index.ensures c.index-in-Some.ensures c.index-in-Some-2.ensures c.in_ok-key-in-Some.ensures
