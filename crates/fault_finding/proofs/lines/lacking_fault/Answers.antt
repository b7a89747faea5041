use Rattle.std.proofs.Common.{sym, subst, List, ℕ}
use Rattle.plan_sight.specs.declared.lack.Lack.TheVariants as lack
use Rattle.plan_sight.specs.Seen.{Lacks}
use Rattle.plan_table.specs.Lines.{line_at}
use Rattle.plan_start.specs.Values.{told_raw}
use Rattle.lack_faults.specs.Lacks.{IsLackAt}
use Rattle.fault_finding.proofs.LineLemmas.{none_lacks, line_lacks, state_lacks, missing_at, spot_read}
use Rattle.fault_finding.proofs.lines.lacking_fault.Goals as goal

pub missing_fault-requires-clause-missing : goal.missing_fault-requires-clause-missing
missing_fault-requires-clause-missing c =
    let t = c.args.table.now in
    missing_at t c.args.at (record { laid = c.requires.laid; sound = c.requires.filled.sound }) c.requires.filled
    c.requires.listed c.requires.refused c.index.result.now.spot c.args.path
    (spot_read t c.args.at c.index.result.now c.requires.listed c.index.ensures) c.requires.path
    (subst (λ e. Lacks t e (told_raw t (line_at t.lines.items c.args.at).spot)) c.in-NotThere.is c.requires.lacks)

pub lack_fault-requires-clause-lack : goal.lack_fault-requires-clause-lack
lack_fault-requires-clause-lack c =
    let t = c.args.table.now in
    subst (λ (x : List ℕ). IsLackAt t x lack.NoValue) (sym c.requires.path)
    (none_lacks t c.args.at (record { laid = c.requires.laid; sound = c.requires.filled.sound }) c.requires.filled
    c.requires.listed c.requires.refused
    (subst (λ e. Lacks t e (told_raw t (line_at t.lines.items c.args.at).spot)) c.in-NoValue.is c.requires.lacks))

pub lack_fault-requires-in-Line-clause-lack : goal.lack_fault-requires-in-Line-clause-lack
lack_fault-requires-in-Line-clause-lack c =
    let t = c.args.table.now in
    let l = subst (λ e. Lacks t e (told_raw t (line_at t.lines.items c.args.at).spot)) c.in-Line.is c.requires.lacks in
    subst (λ (x : List ℕ). IsLackAt t x (lack.Line c.in-Line.other)) (sym c.requires.path)
    (line_lacks t c.args.at (record { laid = c.requires.laid; sound = c.requires.filled.sound }) c.requires.filled
    c.requires.listed c.requires.refused c.in-Line.other l.0 l.1)

pub lack_fault-requires-in-State-clause-lack : goal.lack_fault-requires-in-State-clause-lack
lack_fault-requires-in-State-clause-lack c =
    let t = c.args.table.now in
    subst (λ (x : List ℕ). IsLackAt t x (lack.State c.in-State.key)) (sym c.requires.path)
    (state_lacks t c.args.at (record { laid = c.requires.laid; sound = c.requires.filled.sound }) c.requires.filled
    c.requires.listed c.requires.refused c.in-State.key
    (subst (λ e. Lacks t e (told_raw t (line_at t.lines.items c.args.at).spot)) c.in-State.is c.requires.lacks))
