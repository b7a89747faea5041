use Rattle.std.proofs.Common.{◌≡◌, length, sym, ap, ◌∙◌, arith, rules}
use Rattle.plan_filling.specs.Rows.{Row}
use Rattle.plan_table.specs.Whole.{scopes_of, rows_in}
use Rattle.plan_table.specs.Lines.{cell_of}
use Rattle.plan_table.specs.declared.line.Spot.{Spot}
use Rattle.plan_table.proofs.LaidLemmas.{length_rows}
use Rattle.plan_tasks.specs.Answered.{is_asked}
use Rattle.plan_sight.proofs.LookLemmas.{cell_of_row}
use Rattle.fault_finding.proofs.LineLemmas.{spot_read}
use Rattle.fault_finding.proofs.PlaceLemmas.{past}
use Rattle.fault_finding.proofs.circle.is_asked_at.Goals as goal

pub returns-then-at-len : goal.returns-then-at-len
returns-then-at-len c =
    let t = c.args.table.now in
    let n : c.len.result ≡ length c.args.table.now.lines.items = search rules in
    let h = c.if-at-len.true in
    c.is_asked.ensures (scopes_of t)
    ∙ ap (λ (s : Spot). is_asked (cell_of (scopes_of t) s))
    (sym (spot_read t c.args.at c.index.result.now (omega (arith, n, h)) c.index.ensures))
    ∙ ap is_asked (cell_of_row t c.args.at (omega (arith, n, h)))

pub returns-else-at-len : goal.returns-else-at-len
returns-else-at-len c =
    let t = c.args.table.now in
    let n : c.len.result ≡ length c.args.table.now.lines.items = search rules in
    let h = c.if-at-len.false in
    let m = length_rows (scopes_of t) c.args.table.now.lines.items in
    sym (ap (λ (r : Row). is_asked r.cell) (past (rows_in t) c.args.at (omega (arith, n, h, m))))
